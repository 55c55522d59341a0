use Rattle.table_file.proofs.Words.{arith, ◌∙◌, and_parts, element_at}
use Rattle.std.proofs.Math.ListN.{length-set}
use Rattle.table_file.proofs.Going.{goes_on_in, ends_in}
use Rattle.table_file.proofs.rows.are_elements.Goals as goal

pub loop-j-preserved : goal.loop-j-preserved
loop-j-preserved g c = record {
  goes = λ are all at stands.
      let both = and_parts c.loop-j.are c.element_or_zero-element.result.1 are in
      goes_on_in (element_at all) 8 at _ _ _ _ c.loop-j-test.true (omega arith) (c.element_or_zero-element.ensures both.1 all at stands)
      (c.loop-j.invariant.goes both.0 all at stands);
  wide = length-set c.loop-j.row c.loop-j.j c.element_or_zero-element.result.0 ∙ c.loop-j.invariant.wide;
}

pub returns : goal.returns
returns g c = λ are all at stands.
    ends_in (element_at all) 8 at _ _ _ (omega arith) (omega arith) (c.loop-j.invariant.goes are all at stands)
