-- The laws of cut runs: what a run has done where a limit of cycles cuts it off.
use Rattle.std.specs.Prelude.{◌≡◌, ℕ, ◌+◌, ◌-◌, ◌<◌, ◌≤◌, List, ◌++◌, length, take}
use Rattle.vm_field.specs.Machine.{State}
use Rattle.vm_ops.specs.declared.cause.Cause.{Cause}
use Rattle.block_tree.specs.Execution.{Event, Outcome, Done, Trap, OutOfCycles, execution}
use Rattle.block_tree.specs.Trees.{Tree}

-- A run from a state is cut off at a limit, with one of these events for each cycle before it.
pub record IsCut (limit : ℕ) (s : State) (outcome : Outcome) (events : List Event) : Type 0 where
  pub state : State
  pub cut : outcome ≡ OutOfCycles state events
  pub clock : state.core.clock ≡ limit
  pub count : limit ≡ s.core.clock + length events

-- the first events of a list
pub record AreFirst (first all : List Event) : Type 0 where
  pub rest : List Event
  pub is : all ≡ first ++ rest

-- an outcome behind a limit, with these events before it
abbrev pub GoesOn : ℕ → List Event → Outcome → Type 0
GoesOn limit first (Done t events) = (limit < t.core.clock) × AreFirst first events
GoesOn limit first (Trap clock cause) = limit ≤ clock
GoesOn limit first (OutOfCycles t events) = (limit ≤ t.core.clock) × AreFirst first events

-- How one run comes out within a limit and within a greater one: the same where it ends before the smaller limit, and else it is
-- cut off there.
abbrev pub IsCutAt : ℕ → Outcome → Outcome → Type 0
IsCutAt limit (Done t events) greater = (greater ≡ Done t events) × (t.core.clock ≤ limit)
IsCutAt limit (Trap clock cause) greater = (greater ≡ Trap clock cause) × (clock < limit)
IsCutAt limit (OutOfCycles t events) greater = (t.core.clock ≡ limit) × GoesOn limit events greater

-- a smaller limit cuts a run
abbrev pub CutBySmaller : Type 0
CutBySmaller = (constants : List ℕ) (kernel : List (List ℕ)) (limit other : ℕ) (tree : Tree) (s : State)
    → s.core.clock ≤ other → other ≤ limit
    → IsCutAt other (execution constants kernel other tree s) (execution constants kernel limit tree s)

-- what is cut off has come to the limit
abbrev pub CutAtLimit : Type 0
CutAtLimit = (constants : List ℕ) (kernel : List (List ℕ)) (limit : ℕ) (tree : Tree) (s t : State) (events : List Event)
    → s.core.clock ≤ limit
    → execution constants kernel limit tree s ≡ OutOfCycles t events
    → (t.core.clock ≡ limit) × (limit ≡ s.core.clock + length events)

-- before a trap is what the trap's own clock, as the limit, cuts off
abbrev pub CutBeforeTrap : Type 0
CutBeforeTrap = (constants : List ℕ) (kernel : List (List ℕ)) (limit clock : ℕ) (cause : Cause) (tree : Tree) (s : State)
    → execution constants kernel limit tree s ≡ Trap clock cause
    → (events : List Event) × IsCut clock s (execution constants kernel clock tree s) events

-- before an end, at each limit between the start and it, are the first events
abbrev pub CutBeforeEnd : Type 0
CutBeforeEnd = (constants : List ℕ) (kernel : List (List ℕ)) (limit other : ℕ) (tree : Tree) (s t : State) (events : List Event)
    → execution constants kernel limit tree s ≡ Done t events
    → s.core.clock ≤ other → other < t.core.clock
    → IsCut other s (execution constants kernel other tree s) (take (other - s.core.clock) events)

-- and so before a cut
abbrev pub CutBeforeLimit : Type 0
CutBeforeLimit = (constants : List ℕ) (kernel : List (List ℕ)) (limit other : ℕ) (tree : Tree) (s t : State) (events : List Event)
    → execution constants kernel limit tree s ≡ OutOfCycles t events
    → s.core.clock ≤ other → other ≤ limit
    → IsCut other s (execution constants kernel other tree s) (take (other - s.core.clock) events)
