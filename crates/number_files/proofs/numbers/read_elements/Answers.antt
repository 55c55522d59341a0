use Rattle.std.proofs.Common.{◌≡◌, ◌+◌, ◌≤◌, length, sym, subst, ◌∙◌, arith}
use Rattle.number_files.proofs.Lines.{Goes, one_more_fits, goes_on, stops, ends, some_left, none_is_left}
use Rattle.number_files.proofs.numbers.read_elements.Goals as goal

pub returns-in_default-clause-gives : goal.returns-in_default-clause-gives
returns-in_default-clause-gives c =
    let len : c.len.result ≡ length c.loop-rest.elements.items = omega (arith, c.len.ensures, c.loop-rest.elements.ok) in
    rw c.wrong.ensures (rw len (stops _ _ _ c.in_default.ensures.is (some_left _ (sym c.is_empty.ensures ∙ c.loop-rest-test.true))
    c.loop-rest.invariant.fits c.loop-rest.invariant.goes))

pub loop-rest-preserved : goal.loop-rest-preserved
loop-rest-preserved c = record {
  goes = subst (λ xs. Goes c.args.bytes.now xs c.in-Some.line.behind.now) (sym c.in_ok-push.ensures.items)
      (goes_on _ _ _ _ _ c.in-Some.ensures.is (some_left _ (sym c.is_empty.ensures ∙ c.loop-rest-test.true))
      c.loop-rest.invariant.fits c.loop-rest.invariant.goes);
  fits = subst (λ xs. length xs + length c.in-Some.line.behind.now ≤ length c.args.bytes.now) (sym c.in_ok-push.ensures.items)
      (one_more_fits _ _ _ _ _ c.in-Some.ensures.shorter c.loop-rest.invariant.fits);
}

pub returns-clause-gives : goal.returns-clause-gives
returns-clause-gives c = ends _ _ _ (none_is_left _ (sym c.is_empty.ensures ∙ c.loop-rest-test.false)) c.loop-rest.invariant.goes
