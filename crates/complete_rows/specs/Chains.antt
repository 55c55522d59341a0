-- The rows of a run as a chain: behind each cycle its tasks, the decoder, the state and the later events are those before the next.
use Rattle.std.specs.Prelude.{ℕ, ◌+◌, ◌-◌, List, [], ◌∷◌, ◌++◌, length}
use Rattle.vm_field.specs.Machine.{State, start}
use Rattle.block_tree.specs.Execution as run
use Rattle.block_tree.specs.Steps.{Task, Block}
use Rattle.block_tree.specs.Trees.{Tree}
use Rattle.machine_cycles.specs.declared.event.Event.{Event}
use Rattle.complete_rows.specs.BlockRows.{IsWholeRun, events_of, filled}
use Rattle.complete_rows.specs.Decoder.{Decoder, advance, at_start}
use Rattle.complete_rows.specs.Moments.{IsLastMoment, IsMoment, event_at}

-- from these tasks, this decoder, this state and these events on, to the end of the run in a state
pub data AreLinked (constants : List ℕ) (kernel : List (List ℕ)) (limit : ℕ) (u : State)
    : List Task → Decoder → State → List Event → List (List ℕ) → Type 0 where
  ends : {d : Decoder} {x : List ℕ} → IsLastMoment d u x → AreLinked constants kernel limit u [] d u [] (x ∷ [])
  goes : {x y : List ℕ} {rows : List (List ℕ)} (m : IsMoment constants kernel limit x y)
      → AreLinked constants kernel limit u (m.rest ++ m.todo) (advance m.d (event_at constants kernel m.mark m.s) m.later) m.t m.later (y ∷ rows)
      → AreLinked constants kernel limit u (m.task ∷ m.todo) m.d m.s (event_at constants kernel m.mark m.s ∷ m.later) (x ∷ y ∷ rows)

-- a number for each two neighbouring rows, summed up
unfoldable pub over_pairs : (List ℕ → List ℕ → ℕ) → List (List ℕ) → ℕ
over_pairs count [] = 0
over_pairs count (x ∷ []) = 0
over_pairs count (x ∷ y ∷ rows) = count x y + over_pairs count (y ∷ rows)

-- the rows of a run are such a chain
abbrev pub RunIsLinked : Type 0
RunIsLinked = (constants : List ℕ) (kernel : List (List ℕ)) (limit : ℕ) (tree : Tree) (inputs tape : List ℕ) (u : State) (log : List run.Event)
    → IsWholeRun constants kernel limit tree inputs tape u log
    → AreLinked constants kernel limit u (Block tree ∷ []) (at_start (length inputs - 16)) (start inputs tape) (events_of constants kernel log)
    (filled constants kernel u log)
