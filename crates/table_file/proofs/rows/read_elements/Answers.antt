use Rattle.table_file.proofs.Words.{arith, subst, sym, ◌*◌, ◌∙◌, take_all, err_from_is_err_and, element_at, StandsAt}
use Rattle.std.proofs.Math.ListN.{length-set}
use Rattle.table_file.proofs.Going.{goes_on_in, stops, ends_in}
use Rattle.table_file.proofs.rows.read_elements.Goals as goal

pub returns-in_err-element : goal.returns-in_err-element
returns-in_err-element g c =
    let p = err_from_is_err_and c.from_residual.result c.from_residual.ensures.1 in
    rw (p.1, p.2) (record {
      ok = tt;
      err = λ all stands.
          let whole = subst (StandsAt all _) (sym (take_all (8 * g.row.W) c.args.part.now (omega (arith, c.requires.whole)))) stands in
          stops (element_at all) 8 _ _ _ _ _ c.loop-j-test.true (c.in_err-element.ensures all whole) (c.loop-j.invariant.goes all whole);
    })

pub loop-j-preserved : goal.loop-j-preserved
loop-j-preserved g c = record {
  goes = λ all stands. goes_on_in (element_at all) 8 _ _ _ _ _ c.loop-j-test.true (omega arith) (c.in_ok-element.ensures all stands)
      (c.loop-j.invariant.goes all stands);
  wide = length-set c.loop-j.row c.loop-j.j c.in_ok-element.element ∙ c.loop-j.invariant.wide;
}

pub returns : goal.returns
returns g c = record {
  ok = λ all stands.
      let whole = subst (StandsAt all _) (sym (take_all (8 * g.row.W) c.args.part.now (omega (arith, c.requires.whole)))) stands in
      ends_in (element_at all) 8 _ _ _ _ (omega arith) (omega arith) (c.loop-j.invariant.goes all whole);
  err = tt;
}
