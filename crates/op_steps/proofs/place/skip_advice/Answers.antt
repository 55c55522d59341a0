use Rattle.std.proofs.Common.{ℕ, List, ◌∙◌, ap₂}
use Rattle.vm_state.specs.declared.state.State.{State}
use Rattle.op_steps.proofs.Places.{taken_more}
use Rattle.op_steps.proofs.place.skip_advice.Goals as goal

pub loop-preserved : goal.loop-preserved
loop-preserved c =
    let taken =
    taken_more c.args.state.now.tape c.loop.counter c.next_advice.result c.next_advice.new.self.tape
    (rw c.loop.invariant at c.next_advice.ensures.taken) in
    c.next_advice.ensures.rest ∙ ap₂ (λ (s : State) (tape : List ℕ). record s { tape = tape }) c.loop.invariant taken
