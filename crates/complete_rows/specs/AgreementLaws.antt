-- The law of agreement.
use Rattle.std.specs.Prelude.{◌≡◌, ℕ, List, ◌∷◌, ◌++◌, length}
use Rattle.vm_field.specs.Limits.{number_of_constants}
use Rattle.vm_field.specs.Machine.{State, IsWellFormed}
use Rattle.block_tree.specs.Cycles.{Mark}
use Rattle.block_tree.specs.Marks.{IsWholeMark}
use Rattle.block_tree.specs.Steps.{Task, Next, IsCycle}
use Rattle.machine_cycles.specs.declared.event.Event.{Event}
use Rattle.complete_rows.specs.Agreement.{Agrees}
use Rattle.complete_rows.specs.Decoder.{Decoder, advance}
use Rattle.complete_rows.specs.Moments.{event_at}

-- behind a cycle from a well-formed state, whatever events come later
abbrev pub AgreesBehind : Type 0
AgreesBehind = (constants : List ℕ) (kernel : List (List ℕ)) (limit : ℕ) (task : Task) (mark : Mark) (rest todo : List Task) (s t : State)
    (d : Decoder) (later : List Event)
    → length constants ≡ number_of_constants → Next constants task s.core mark rest → IsCycle constants kernel limit mark s t → IsWholeMark mark → IsWellFormed s
    → Agrees (task ∷ todo) d s.core → Agrees (rest ++ todo) (advance d (event_at constants kernel mark s) later) t.core
