-- How the clock goes in a run: by one with each event, and up to the limit at most, at which the run is cut off.
use Rattle.std.proofs.Common.{◌≡◌, ℕ, ◌+◌, ◌<◌, ◌≤◌, List, ◌∷◌, ◌++◌, length, Result, Ok, Err, ⊎_elim, refl, arith}
use Rattle.std.proofs.lemmas.Bool.{cases_lt}
use Rattle.std.proofs.lemmas.List.{length-append}
use Rattle.vm_field.specs.Machine.{State}
use Rattle.vm_ops.specs.declared.cause.Cause.{Cause}
use Rattle.vm_ops.specs.Step.{cycle_taking}
use Rattle.block_tree.specs.Cycles.{Mark, effect_of, advice_taken}
use Rattle.block_tree.specs.Execution.{Event, Outcome, Done, Trap, OutOfCycles, Part, logged, then_do, cycle}
use Rattle.block_tree.specs.Steps.{Task}
use Rattle.block_tree.proofs.Courses.{Course, finished, cycled}
use Rattle.block_tree.proofs.Keeping.{cycle-ticks}
use Rattle.block_tree.proofs.Parts.{taking-late, taking-ok, taking-trap}

-- what comes of a state within a limit; where it is done the clock is the floor at least
abbrev pub Tracks : ℕ → ℕ → State → Outcome → Type 0
Tracks limit floor s (Done t es) = (t.core.clock ≡ s.core.clock + length es) × (t.core.clock ≤ limit) × (floor ≤ t.core.clock)
Tracks limit floor s (Trap clock cause) = (s.core.clock ≤ clock) × (clock < limit)
Tracks limit floor s (OutOfCycles t es) = (t.core.clock ≡ s.core.clock + length es) × (t.core.clock ≡ limit)

tracks-logged : (limit floor : ℕ) (s u : State) (es : List Event) (o : Outcome) → u.core.clock ≡ s.core.clock + length es → floor ≤ u.core.clock
    → Tracks limit u.core.clock u o → Tracks limit floor s (logged es o)
tracks-logged limit floor s u es (Done t more) e l h =
    let size : length (es ++ more) ≡ length es + length more = length-append es more in
    let counts : t.core.clock ≡ u.core.clock + length more = h.0 in
    (omega arith, h.1, omega arith)
tracks-logged limit floor s u es (Trap clock cause) e l h = let later : u.core.clock ≤ clock = h.0 in (omega arith, h.1)
tracks-logged limit floor s u es (OutOfCycles t more) e l h =
    let size : length (es ++ more) ≡ length es + length more = length-append es more in
    let counts : t.core.clock ≡ u.core.clock + length more = h.0 in
    (omega arith, h.1)

tracks-then : (limit floor : ℕ) (s : State) (o : Outcome) (f : Part) → Tracks limit floor s o
    → ((t : State) (es : List Event) → o ≡ Done t es → t.core.clock ≤ limit → Tracks limit t.core.clock t (f t)) → Tracks limit floor s (then_do o f)
tracks-then limit floor s (Done t es) f h k = tracks-logged limit floor s t es (f t) h.0 h.2 (k t es refl h.1)
tracks-then limit floor s _ f h k = h

module _ (constants : List ℕ) (kernel : List (List ℕ)) (limit : ℕ) where
  pub tracks-cycle : (mark : Mark) (floor : ℕ) (s : State) → s.core.clock ≤ limit → floor ≤ s.core.clock + 1
      → Tracks limit floor s (cycle constants kernel limit mark s)
  tracks-cycle mark floor s room low = ⊎_elim (λ l. within l _ refl) late (cases_lt s.core.clock limit)
    where
      late : limit ≤ s.core.clock → Tracks limit floor s (cycle constants kernel limit mark s)
      late l = rw (taking-late limit mark (advice_taken mark) (effect_of constants kernel mark) s l) (omega arith, omega arith)

      within : s.core.clock < limit → (r : Result State Cause) → cycle_taking (advice_taken mark) (effect_of constants kernel mark) s ≡ r
          → Tracks limit floor s (cycle constants kernel limit mark s)
      within l (Ok t) made =
          let done = taking-ok limit mark (advice_taken mark) (effect_of constants kernel mark) s t l made in
          let ticks : t.core.clock ≡ s.core.clock + 1 = cycle-ticks constants kernel limit mark s t _ done in
          rw done (omega arith, omega arith, omega arith)
      within l (Err cause) made =
          rw (taking-trap limit mark (advice_taken mark) (effect_of constants kernel mark) s cause l made) (omega arith, l)

  course-tracks : {todo : List Task} {s : State} {o : Outcome} → Course constants kernel limit todo s o → s.core.clock ≤ limit
      → Tracks limit s.core.clock s o
  course-tracks finished room = (omega arith, room, omega arith)
  course-tracks (cycled {s = s} f h) room =
      tracks-then limit _ s _ f (tracks-cycle _ _ s room (omega arith)) (λ t es e l. course-tracks (h t es e) l)

  -- where there is a task, a cycle is taken at least
  pub first-tracks : {task : Task} {todo : List Task} {s : State} {o : Outcome} → Course constants kernel limit (task ∷ todo) s o
      → s.core.clock ≤ limit → Tracks limit (s.core.clock + 1) s o
  first-tracks (cycled {s = s} f h) room =
      tracks-then limit _ s _ f (tracks-cycle _ _ s room (omega arith)) (λ t es e l. course-tracks (h t es e) l)
