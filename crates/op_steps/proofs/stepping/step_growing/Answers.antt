use Rattle.rpo_hash.specs.Constants.{constants_of}
use Rattle.vm_state.specs.Views.{state_of}
use Rattle.op_steps.proofs.Steps.{single_growing}
use Rattle.op_steps.proofs.stepping.step_growing.Goals as goal

pub returns : goal.returns
returns c =
    let constants = constants_of c.args.params.now in
    let is = c.in-Some.ensures.is constants in
    rw c.in_ok-push.ensures.ok
    (single_growing constants c.args.item.now (state_of c.args.state.now) c.in-Some.cell is.0 c.requires.grows is.1 c.in-Some.ensures.sixteen)
