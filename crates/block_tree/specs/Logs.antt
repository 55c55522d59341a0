-- The log of a run: one cycle after another, with an event each.
use Rattle.std.specs.Prelude.{◌≡◌, ℕ, List, [], ◌∷◌, length}
use Rattle.vm_field.specs.Field.{AreElements}
use Rattle.vm_field.specs.Machine.{State, IsWellFormedCore}
use Rattle.block_tree.specs.Cycles.{Mark, advice_taken}
use Rattle.block_tree.specs.Execution.{Event, event_of}
use Rattle.block_tree.specs.Marks.{IsWholeMark}
use Rattle.block_tree.specs.Steps.{IsCycle}

-- The events lead from one state to another: each cycle is done, the first one from the first state, and each later one from
-- the state behind the one before it.
pub data IsLog (constants : List ℕ) (kernel : List (List ℕ)) (limit : ℕ) : State → List Event → State → Type 0 where
  over : {s : State} → IsLog constants kernel limit s [] s
  next : {mark : Mark} {s t u : State} {events : List Event} → IsCycle constants kernel limit mark s t → IsLog constants kernel limit t events u
      → IsLog constants kernel limit s (event_of mark (advice_taken mark) s ∷ events) u

-- a cycle from a well-formed state, all of whose parts are made of elements
pub record IsWholeEvent (e : Event) : Type 0 where
  pub mark : IsWholeMark e.mark
  pub core : IsWellFormedCore e.core
  pub size : length e.advice ≡ advice_taken e.mark
  pub advice : AreElements e.advice
