-- What is left of a run within a limit, of how it comes out within a greater one.
use Rattle.std.proofs.Common.{◌≡◌, ℕ, ◌+◌, ◌-◌, ◌<◌, ◌≤◌, List, [], length, take, ⊎_elim, refl, sym, ap, ◌∙◌, subst, arith}
use Rattle.std.proofs.lemmas.Bool.{cases_lt}
use Rattle.std.proofs.lemmas.List.{take_at}
use Rattle.vm_field.specs.Machine.{State}
use Rattle.vm_ops.specs.declared.cause.Cause.{Cause}
use Rattle.block_tree.specs.CutLaws.{AreFirst, GoesOn, IsCut, IsCutAt}
use Rattle.block_tree.specs.Execution.{Event, Outcome, Done, Trap, OutOfCycles, IsCutOff, cut_off, execution}
use Rattle.block_tree.specs.Trees.{Tree}
use Rattle.block_tree.proofs.Courses.{Course, finished, course-same, course-along, course-done, course-of}
use Rattle.block_tree.proofs.Keeping.{cycle-ticks}
use Rattle.block_tree.proofs.Limits.{ended-tracks, execution-cut, execution-late, execution-tracks}
use Rattle.block_tree.proofs.Parts.{done-not_late, taking-inv, taking-within}
use Rattle.block_tree.proofs.Tracks.{Tracks}

-- an outcome that does not end before the limit
abbrev IsBehind : ℕ → Outcome → Type 0
IsBehind limit (Done t es) = limit < t.core.clock
IsBehind limit (Trap clock cause) = limit ≤ clock
IsBehind limit (OutOfCycles t es) = Unit {0}

-- a run that is cut off, and how it goes on
record CutOff (limit : ℕ) (s : State) (o p : Outcome) : Type 0 where
  events : List Event
  cut : IsCut limit s o events
  on : GoesOn limit events p

cut-here : (limit floor : ℕ) (s : State) (o p : Outcome) → Tracks limit floor s o → IsCutAt limit o p → IsBehind limit p → CutOff limit s o p
cut-here limit floor s (Done t es) p tracks h later =
    let above : limit < t.core.clock = subst (IsBehind limit) h.0 later in let below = h.1 in absurd (omega arith)
cut-here limit floor s (Trap clock cause) p tracks h later =
    let above : limit ≤ clock = subst (IsBehind limit) h.0 later in let below = h.1 in absurd (omega arith)
cut-here limit floor s (OutOfCycles t es) p tracks h later =
    let counts : t.core.clock ≡ s.core.clock + length es = tracks.0 in
    let clock : t.core.clock ≡ limit = h.0 in
    record { events = es; cut = record { state = t; cut = refl; clock = clock; count = omega arith }; on = h.1 }

-- the first events by their number
cut-first : (limit : ℕ) (s : State) (o : Outcome) (es all : List Event) → IsCut limit s o es → AreFirst es all
    → IsCut limit s o (take (limit - s.core.clock) all)
cut-first limit s o es all cut h =
    let counts = cut.count in
    subst (IsCut limit s o) (sym (ap (take (limit - s.core.clock)) h.is ∙ take_at es h.rest (limit - s.core.clock) (omega arith))) cut

module _ (constants : List ℕ) (kernel : List (List ℕ)) where
  pub cut-at : (limit : ℕ) (tree : Tree) (s t : State) (es : List Event) → s.core.clock ≤ limit → execution constants kernel limit tree s ≡ OutOfCycles t es
      → (t.core.clock ≡ limit) × (limit ≡ s.core.clock + length es)
  cut-at limit tree s t es room e =
      let tracks : Tracks limit (s.core.clock + 1) s (OutOfCycles t es)
      = subst (Tracks limit (s.core.clock + 1) s) e (execution-tracks constants kernel limit tree s room) in
      let counts : t.core.clock ≡ s.core.clock + length es = tracks.0 in
      let clock : t.core.clock ≡ limit = tracks.1 in
      (clock, omega arith)

  -- a run that does not end before a smaller limit is cut off there
  cut-within : (limit other : ℕ) (tree : Tree) (s : State) (p : Outcome) → execution constants kernel limit tree s ≡ p
      → s.core.clock ≤ other → other ≤ limit → IsBehind other p → CutOff other s (execution constants kernel other tree s) p
  cut-within limit other tree s p e from short later =
      cut-here other (s.core.clock + 1) s _ p (execution-tracks constants kernel other tree s from)
      (subst (IsCutAt other (execution constants kernel other tree s)) e (execution-cut constants kernel other limit short tree s from)) later

  pub cut-trap : (limit clock : ℕ) (cause : Cause) (tree : Tree) (s : State) → execution constants kernel limit tree s ≡ Trap clock cause
      → (events : List Event) × IsCut clock s (execution constants kernel clock tree s) events
  cut-trap limit clock cause tree s e =
      let tracks = (ended-tracks constants kernel limit tree s (Trap clock cause) e (λ x. cc)).1 in
      let within : clock < limit = tracks.1 in
      let cut = cut-within limit clock tree s (Trap clock cause) e tracks.0 (omega arith) (omega arith) in
      (cut.events, cut.cut)

  pub cut-end : (limit other : ℕ) (tree : Tree) (s t : State) (events : List Event) → execution constants kernel limit tree s ≡ Done t events
      → s.core.clock ≤ other → other < t.core.clock → IsCut other s (execution constants kernel other tree s) (take (other - s.core.clock) events)
  cut-end limit other tree s t events e from short =
      let within : t.core.clock ≤ limit = (ended-tracks constants kernel limit tree s (Done t events) e (done-not_late s t [] events)).1.1 in
      let cut = cut-within limit other tree s (Done t events) e from (omega arith) short in
      cut-first other s _ cut.events events cut.cut cut.on.1

  pub cut-limit : (limit other : ℕ) (tree : Tree) (s t : State) (events : List Event) → execution constants kernel limit tree s ≡ OutOfCycles t events
      → s.core.clock ≤ other → other ≤ limit → IsCut other s (execution constants kernel other tree s) (take (other - s.core.clock) events)
  cut-limit limit other tree s t events e from short =
      let cut = cut-within limit other tree s (OutOfCycles t events) e from short tt in cut-first other s _ cut.events events cut.cut cut.on.1

  -- what is done within one limit is done within each that its clock allows
  pub execution-again : (limit other : ℕ) (tree : Tree) (s t : State) (es : List Event) → execution constants kernel limit tree s ≡ Done t es
      → t.core.clock ≤ other → execution constants kernel other tree s ≡ Done t es
  execution-again limit other tree s t es e room = course-same constants kernel other (course-of constants kernel other tree s)
      ((course-along constants kernel limit
      (λ todo s es t. (s.core.clock ≤ t.core.clock) × (t.core.clock ≤ other → Course constants kernel other todo s (Done t es)))
      (λ s. (omega arith, λ l. finished))
      (λ task todo s t u es fs e h.
      let ticks = cycle-ticks constants kernel limit _ s t es e in
      let before = (taking-inv limit _ _ _ s t es e).before in
      let later = h.0 in
      (omega arith, λ l. course-done constants kernel other _ es refl (taking-within other limit _ _ _ s (omega arith) before ∙ e) (h.1 l)))
      (course-of constants kernel limit tree s) t es e).1 room)

  -- and is cut off within each other
  pub execution-short : (limit other : ℕ) (tree : Tree) (s t : State) (es : List Event) → execution constants kernel limit tree s ≡ Done t es
      → other < t.core.clock → IsCutOff (execution constants kernel other tree s)
  execution-short limit other tree s t es e short = ⊎_elim
      (λ l. rw (execution-late constants kernel other tree s (omega arith)) (cut_off s []))
      (λ l. off (cut-end limit other tree s t es e l short))
      (cases_lt other s.core.clock)
    where
      off : {events : List Event} → IsCut other s (execution constants kernel other tree s) events → IsCutOff (execution constants kernel other tree s)
      off h = rw h.cut (cut_off h.state _)
