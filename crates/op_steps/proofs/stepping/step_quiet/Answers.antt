use Rattle.rpo_hash.specs.Constants.{constants_of}
use Rattle.vm_state.specs.Views.{state_of}
use Rattle.op_steps.proofs.Steps.{single_quietly}
use Rattle.op_steps.proofs.stepping.step_quiet.Goals as goal

pub returns-in-Some : goal.returns-in-Some
returns-in-Some c =
    let constants = constants_of c.args.params.now in
    let is = c.in-Some.ensures.is constants in
    rw c.settle.ensures
    (single_quietly constants c.args.item.now (state_of c.args.state.now) c.in-Some.cell is.0 c.requires.quiet is.1 c.in-Some.ensures.sixteen)
