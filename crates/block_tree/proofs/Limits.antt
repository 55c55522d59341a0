-- A run within a limit is what that limit leaves of the same run within a greater one.
use Rattle.std.proofs.Common.{◌≡◌, ℕ, ◌+◌, ◌<◌, ◌≤◌, List, [], ◌++◌, length, ⊎_elim, refl, sym, ap, ◌∙◌, subst, append_assoc, append-nil, arith}
use Rattle.std.proofs.lemmas.Bool.{cases_lt}
use Rattle.vm_field.specs.Machine.{State}
use Rattle.block_tree.specs.CutLaws.{GoesOn, IsCutAt}
use Rattle.block_tree.specs.Trees.{Tree}
use Rattle.block_tree.specs.Cycles.{Mark, effect_of, advice_taken}
use Rattle.block_tree.specs.Execution.{Event, Outcome, Done, Trap, OutOfCycles, Part, logged, then_do, cycle, execution}
use Rattle.block_tree.specs.Steps.{Task}
use Rattle.block_tree.proofs.Courses.{Course, finished, cycled, course-same, course-late, course-of}
use Rattle.block_tree.proofs.Parts.{done-not_late, taking-late, taking-within}
use Rattle.block_tree.proofs.Tracks.{Tracks, first-tracks, tracks-cycle}

-- the events before stand before those of a cut, and of what goes on behind it
goes-behind : (j : ℕ) (es first : List Event) (o : Outcome) → GoesOn j first o → GoesOn j (es ++ first) (logged es o)
goes-behind j es first (Trap clock cause) h = h
goes-behind j es first _ h =
    (h.0, record { rest = h.1.rest; is = ap (λ x. es ++ x) h.1.is ∙ sym (append_assoc es first h.1.rest) })

cut-behind : (j : ℕ) (es : List Event) (o p : Outcome) → IsCutAt j o p → IsCutAt j (logged es o) (logged es p)
cut-behind j es (OutOfCycles t more) p h = (h.0, goes-behind j es more p h.1)
cut-behind j es _ p h = (ap (logged es) h.0, h.1)

-- from a state that has reached the limit all goes on
goes-on : (j k : ℕ) (s : State) (o : Outcome) → j ≤ s.core.clock → Tracks k (s.core.clock + 1) s o → GoesOn j [] o
goes-on j k s (Done t es) l h = let above : s.core.clock + 1 ≤ t.core.clock = h.2 in (omega arith, record { rest = es; is = refl })
goes-on j k s (Trap clock cause) l h = let later : s.core.clock ≤ clock = h.0 in omega arith
goes-on j k s (OutOfCycles t es) l h =
    let counts : t.core.clock ≡ s.core.clock + length es = h.0 in (omega arith, record { rest = es; is = refl })

-- one outcome, behind which a run is cut at the limit
cut-then : (j floor : ℕ) (s : State) (o : Outcome) (f g : Part) → Tracks j floor s o
    → ((t : State) (es : List Event) → o ≡ Done t es → t.core.clock ≤ j → IsCutAt j (f t) (g t)) → IsCutAt j (then_do o f) (then_do o g)
cut-then j floor s (Done t es) f g h k = cut-behind j es (f t) (g t) (k t es refl h.1)
cut-then j floor s (Trap clock cause) f g h k = (refl, h.1)
cut-then j floor s (OutOfCycles t es) f g h k =
    let end : t.core.clock ≡ j = h.1 in (end, (omega arith, record { rest = []; is = sym (append-nil es) }))

-- the limits j and k
module _ (constants : List ℕ) (kernel : List (List ℕ)) (j k : ℕ) (greater : j ≤ k) where
  cut-first : (mark : Mark) (s : State) (f g : Part) → s.core.clock ≤ j
      → Tracks k (s.core.clock + 1) s (then_do (cycle constants kernel k mark s) g)
      → ((t : State) (es : List Event) → cycle constants kernel j mark s ≡ Done t es → cycle constants kernel k mark s ≡ Done t es
      → t.core.clock ≤ j → IsCutAt j (f t) (g t))
      → IsCutAt j (then_do (cycle constants kernel j mark s) f) (then_do (cycle constants kernel k mark s) g)
  cut-first mark s f g room tracks h = ⊎_elim
      (λ l. let same : cycle constants kernel j mark s ≡ cycle constants kernel k mark s = taking-within j k mark _ _ s l (omega arith) in
      rw (← same) (cut-then j _ s (cycle constants kernel j mark s) f g (tracks-cycle constants kernel j mark s.core.clock s room (omega arith))
      (λ t es e m. h t es e (sym same ∙ e) m)))
      (λ l. rw (taking-late j mark (advice_taken mark) (effect_of constants kernel mark) s l) (omega arith, goes-on j k s _ l tracks))
      (cases_lt s.core.clock j)

  course-cut : {todo : List Task} {s : State} {o p : Outcome} → Course constants kernel j todo s o → Course constants kernel k todo s p
      → s.core.clock ≤ j → IsCutAt j o p
  course-cut finished finished room = (refl, room)
  course-cut (cycled f h) (cycled {task} {todo} {s} g h') room =
      cut-first _ s f g room (first-tracks constants kernel k {task = task} {todo = todo} {s = s} (cycled g h') (omega arith))
      (λ t es e e' l. course-cut (h t es e) (h' t es e') l)

  pub execution-cut : (t : Tree) (s : State) → s.core.clock ≤ j → IsCutAt j (execution constants kernel j t s) (execution constants kernel k t s)
  execution-cut t s room = course-cut (course-of constants kernel j t s) (course-of constants kernel k t s) room

module _ (constants : List ℕ) (kernel : List (List ℕ)) (limit : ℕ) where
  -- a limit that has been reached cuts each tree off
  pub execution-late : (t : Tree) (s : State) → limit ≤ s.core.clock → execution constants kernel limit t s ≡ OutOfCycles s []
  execution-late t s late = course-same constants kernel limit (course-of constants kernel limit t s) (course-late constants kernel limit late)

  pub execution-tracks : (t : Tree) (s : State) → s.core.clock ≤ limit → Tracks limit (s.core.clock + 1) s (execution constants kernel limit t s)
  execution-tracks t s room = first-tracks constants kernel limit (course-of constants kernel limit t s) room

  -- what ends within the limit began before it
  pub ended-tracks : (t : Tree) (s : State) (o : Outcome) → execution constants kernel limit t s ≡ o → (OutOfCycles s [] ≡ o → ⊥)
      → (s.core.clock < limit) × Tracks limit (s.core.clock + 1) s o
  ended-tracks t s o e other = ⊎_elim
      (λ l. (l, subst (Tracks limit (s.core.clock + 1) s) e (execution-tracks t s (omega arith))))
      (λ l. absurd (other (sym (execution-late t s l) ∙ e)))
      (cases_lt s.core.clock limit)

  -- a tree takes a cycle at least
  pub execution-strict : (t : Tree) (s u : State) (es : List Event) → execution constants kernel limit t s ≡ Done u es → s.core.clock < u.core.clock
  execution-strict t s u es e =
      let above : s.core.clock + 1 ≤ u.core.clock = (ended-tracks t s (Done u es) e (done-not_late s u [] es)).1.2 in omega arith
