use Rattle.std.proofs.Common.{arith}
use Rattle.vm_state.specs.Views.{state_of}
use Rattle.op_steps.proofs.Steps.{stored}
use Rattle.op_steps.proofs.storing.step_storing.Goals as goal

pub returns : goal.returns
returns c = λ constants.
    rw (c.drop_top.ensures, c.in_ok-store.ensures.ok, c.in_ok-address.ensures.0)
    (stored constants c.args.item.now (state_of c.args.state.now) c.word_behind-word.result c.requires.writes
    (omega (arith, c.in_ok-address.ensures.0, c.in_ok-address.ensures.1)) (c.word_behind-word.ensures constants c.args.item.now))
