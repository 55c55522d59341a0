use Rattle.std.proofs.Common.{ℕ, List, set, ◌∙◌, ap, arith}
use Rattle.std.proofs.lemmas.List.{get_or_read}
use Rattle.vm_state.specs.declared.state.State.{State}
use Rattle.op_steps.proofs.Places.{overwritten_more}
use Rattle.op_steps.proofs.place.overwrite.Goals as goal

pub loop-j-preserved : goal.loop-j-preserved
loop-j-preserved c =
    let written = overwritten_more c.args.cells.now c.args.state.now.stack c.loop-j.j c.index-cells-j.result (omega arith) (omega arith)
    (get_or_read c.args.cells.now c.loop-j.j c.index-cells-j.result (omega arith) c.index-cells-j.is 0) in
    c.set.ensures
    ∙ ap (λ (s : State). record s { stack = set s.stack c.loop-j.j c.index-cells-j.result }) c.loop-j.invariant
    ∙ ap (λ (stack : List ℕ). record c.args.state.now { stack = stack }) written
