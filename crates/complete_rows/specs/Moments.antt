-- The places of a run, one for each row: a row shows a cycle, or it is the HALT behind the last one.
use Rattle.std.specs.Prelude.{◌≡◌, ℕ, List, [], ◌∷◌, ◌++◌}
use Rattle.vm_field.specs.Machine.{Core, State, IsWellFormed}
use Rattle.vm_ops.specs.declared.op.Op.{Op}
use Rattle.vm_ops.specs.declared.op.Op.TheVariants as ops
use Rattle.block_tree.specs.Cycles.{Mark, advice_taken}
use Rattle.block_tree.specs.Execution.{event_of}
use Rattle.block_tree.specs.Marks.{IsWholeMark}
use Rattle.block_tree.specs.Rows.{op_of_mark}
use Rattle.block_tree.specs.Steps.{Task, Next, IsCycle}
use Rattle.machine_cycles.specs.Events.{shown, visible_of}
use Rattle.machine_cycles.specs.declared.event.Event.{Event}
use Rattle.machine_cycles.specs.declared.event.Visible.{Visible}
use Rattle.complete_rows.specs.Agreement.{Agrees}
use Rattle.complete_rows.specs.Bounds.{IsBounded, IsSmallCore}
use Rattle.complete_rows.specs.Decoder.{Decoder, advance}
use Rattle.complete_rows.specs.Filling.{halted, row_of}

-- what the log shows of a cycle
abbrev pub event_at : List ℕ → List (List ℕ) → Mark → State → Event
event_at constants kernel mark s = shown constants kernel (event_of mark (advice_taken mark) s)

-- the operation that comes where these tasks are still to be done: HALT where there are none
abbrev pub Comes : List ℕ → List Task → Core → Op → Type 0
Comes constants [] c op = op ≡ ops.Halt
Comes constants (task ∷ todo) c op =
    (mark : Mark) × (rest : List Task) × Next constants task c mark rest × IsWholeMark mark × (op ≡ op_of_mark mark)

-- the row at a place of a run, whichever it is
pub record IsRowAt (constants : List ℕ) (todo : List Task) (d : Decoder) (c : Core) (x : List ℕ) : Type 0 where
  pub event : Event
  pub next : Visible
  pub later : List Event
  pub row : x ≡ row_of d event next later
  pub before : event.before ≡ visible_of c
  pub comes : Comes constants todo c event.op

-- a row that shows a cycle, and the row behind it
pub record IsMoment (constants : List ℕ) (kernel : List (List ℕ)) (limit : ℕ) (x y : List ℕ) : Type 0 where
  pub task : Task
  pub rest : List Task
  pub todo : List Task
  pub mark : Mark
  pub s : State
  pub t : State
  pub d : Decoder
  pub later : List Event
  pub first : Next constants task s.core mark rest
  pub cycle : IsCycle constants kernel limit mark s t
  pub whole : IsWholeMark mark
  pub before : IsWellFormed s
  pub behind : IsWellFormed t
  pub agrees : Agrees (task ∷ todo) d s.core
  pub agrees_behind : Agrees (rest ++ todo) (advance d (event_at constants kernel mark s) later) t.core
  pub small : IsSmallCore s.core
  pub bounded : IsBounded d s.core.clock (event_at constants kernel mark s ∷ later)
  pub row : x ≡ row_of d (event_at constants kernel mark s) (visible_of t.core) later
  pub next : IsRowAt constants (rest ++ todo) (advance d (event_at constants kernel mark s) later) t.core y

-- the row of HALT, behind all events
pub record IsLastMoment (d : Decoder) (s : State) (x : List ℕ) : Type 0 where
  pub agrees : Agrees [] d s.core
  pub bounded : IsBounded d s.core.clock []
  pub whole : IsWellFormed s
  pub small : IsSmallCore s.core
  pub row : x ≡ row_of d (halted (visible_of s.core)) (visible_of s.core) []

-- all rows from one on, to the HALT with which the run ends in this state
pub data AreMoments (constants : List ℕ) (kernel : List (List ℕ)) (limit : ℕ) (d : Decoder) (u : State) : List (List ℕ) → Type 0 where
  ends : {x : List ℕ} → IsLastMoment d u x → AreMoments constants kernel limit d u (x ∷ [])
  goes : {x y : List ℕ} {rows : List (List ℕ)} → IsMoment constants kernel limit x y → AreMoments constants kernel limit d u (y ∷ rows)
      → AreMoments constants kernel limit d u (x ∷ y ∷ rows)
