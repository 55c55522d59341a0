use Rattle.table_file.proofs.Words.{◌∙◌, arith}
use Rattle.std.proofs.lemmas.List.Sums.{sum_by-drop_more}
use Rattle.table_file.proofs.PartTraces.{passes}
use Rattle.table_file.proofs.part_trace.PartTrace.pass_ended.Goals as goal

pub loop-self-preserved : goal.loop-self-preserved
loop-self-preserved c =
    let p = c.loop-self.self in
    let so_far = c.loop-self.invariant in
    record {
      each = so_far.each;
      small = omega (arith, so_far.small, sum_by-drop_more (λ x. x) p.left p.table 0 (omega (arith, so_far.each, c.loop-self-test.true)));
      place = so_far.place;
      same = λ all. so_far.same all ∙ passes p so_far.each c.loop-self-test.true c.if-self-eq0.true all;
    }
