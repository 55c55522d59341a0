use Rattle.std.proofs.Common.{◌≡◌, ◌<◌, IfOk, subst, arith}
use Rattle.vm_field.specs.Machine.{start}
use Rattle.rpo_hash.specs.Constants.{constants_of}
use Rattle.block_tree.specs.TreeView.{tree_of}
use Rattle.masm_places.specs.Indexed.{texts_in}
use Rattle.cmd_kit.specs.declared.answer.Answer.{Answer}
use Rattle.show_trace.proofs.CutLemmas.{below_limit, is_cut, starts_early}
use Rattle.show_trace.proofs.TellLemmas.{progress_told}
use Rattle.show_trace.proofs.telling.told_run.Goals as goal

pub told_trap-requires-clause-clock : goal.told_trap-requires-clause-clock
told_trap-requires-clause-clock c =
    let below : c.in-Err-Trap.clock < c.args.limit =
    below_limit (constants_of c.args.params.now) c.args.program.now.kernel c.args.limit c.in-Err-Trap.clock c.in-Err-Trap.cause
    (tree_of c.args.program.now.tree) (start c.args.inputs.now.stack c.args.inputs.now.advice)
    (rw c.in-Err-Trap.field-0-is at c.in-Err-Trap.ensures) c.cut_laws.ensures.smaller
    (starts_early c.args.inputs.now.stack c.args.inputs.now.advice c.args.limit) in
    omega (arith, c.requires)

pub told_trap-requires-clause-cut : goal.told_trap-requires-clause-cut
told_trap-requires-clause-cut c =
    is_cut (constants_of c.args.params.now) c.args.program.now.kernel c.args.limit c.in-Err-Trap.clock c.in-Err-Trap.cause
    (tree_of c.args.program.now.tree) (start c.args.inputs.now.stack c.args.inputs.now.advice)
    (rw c.in-Err-Trap.field-0-is at c.in-Err-Trap.ensures) c.cut_laws.ensures.trap

pub returns-in-Ok : goal.returns-in-Ok
returns-in-Ok c =
    subst (λ (t : Answer). IfOk c.told_progress.result (λ a. a ≡ t))
    (progress_told c.args.params.now (texts_in c.args.sources.now) c.args.program.now c.args.inputs.now c.args.limit c.in-Ok.progress
    c.in-Ok.ensures)
    c.told_progress.ensures
