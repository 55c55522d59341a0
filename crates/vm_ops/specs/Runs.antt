-- Ordinary operations one after another.
use Rattle.std.specs.Prelude.{ℕ, List, [], ◌∷◌, Result, Ok, Err}
use Rattle.vm_field.specs.Machine.{State}
use Rattle.vm_ops.specs.declared.cause.Cause.{Cause}
use Rattle.vm_ops.specs.declared.item.Item.{Item}
use Rattle.vm_ops.specs.Step.{step}

-- goes on from a state, unless there was a trap
abbrev pub after_ok : (State → Result State Cause) → Result State Cause → Result State Cause
after_ok next (Ok s) = next s
after_ok next (Err cause) = Err cause

-- the steps of all items, up to the first trap
unfoldable pub run : List ℕ → List Item → State → Result State Cause
run constants [] s = Ok s
run constants (item ∷ items) s = after_ok (run constants items) (step constants item s)
