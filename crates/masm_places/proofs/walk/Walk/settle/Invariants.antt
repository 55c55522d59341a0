use Rattle.std.proofs.Common.{◌≡◌, ◌-◌}
use Rattle.masm_places.specs.Indexed.{texts_in}
use Rattle.masm_places.specs.Pending.{walk_of}
use Rattle.masm_places.specs.Silent.{settled_in, settled, most_silent_steps}
use Rattle.masm_places.proofs.walk.Walk.settle.Given as goal

-- what is left of the steps leads from here to where all of them lead
abbrev pub invariant-loop-step : goal.invariant-loop-step
invariant-loop-step l =
    settled_in (most_silent_steps - l._step) (texts_in l.sources) (walk_of l.self) ≡ settled (texts_in l.sources) (walk_of l.fn.self)
