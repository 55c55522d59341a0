use Rattle.std.proofs.Common.{sym, refl, take}
use Rattle.std.proofs.lemmas.Result.{err_from_is_err_and}
use Rattle.rpo_hash.specs.Constants.{constants_of}
use Rattle.vm_ops.specs.Values.{advice_of}
use Rattle.vm_state.specs.Views.{state_of}
use Rattle.op_steps.proofs.Steps.{trapped, stepped_quietly}
use Rattle.op_steps.proofs.stepping.step_computing.Goals as goal

pub returns-in_err-left : goal.returns-in_err-left
returns-in_err-left c =
    let p = err_from_is_err_and c.from_residual.result c.from_residual.ensures.1 in
    rw (p.1, p.2) (trapped _ _ _ _ (sym c.in_err-left.ensures.is), refl)

pub returns : goal.returns
returns c =
    let constants = constants_of c.args.params.now in
    let item = c.args.item.now in
    let state = c.args.state.now in
    rw (c.settle.ensures, c.as_slice.ensures.is)
    (stepped_quietly constants item (state_of state) c.in_ok-left.left c.pointer_after-fmp.result c.requires.quiet (sym c.in_ok-left.ensures.is)
    c.in_ok-left.ensures.count c.in_ok-left.ensures.sixteen (c.pointer_after-fmp.ensures constants item (take (advice_of item.op) state.tape)))
