-- The laws of logs: what a run of a whole tree that is done shows of each cycle.
use Rattle.std.specs.Prelude.{◌≡◌, ℕ, ◌+◌, ◌≤◌, List, length, All}
use Rattle.vm_field.specs.Limits.{most_nesting, number_of_constants}
use Rattle.vm_field.specs.Machine.{State, IsWellFormed}
use Rattle.block_tree.specs.Execution.{Event, Done, execution}
use Rattle.block_tree.specs.Logs.{IsLog, IsWholeEvent}
use Rattle.block_tree.specs.Trees.{Tree, IsWhole}

-- the events are the log of the run
abbrev pub RunIsLogged : Type 0
RunIsLogged = (constants : List ℕ) (kernel : List (List ℕ)) (limit : ℕ) (tree : Tree) (s t : State) (events : List Event)
    → IsWhole tree → execution constants kernel limit tree s ≡ Done t events
    → IsLog constants kernel limit s events t

-- as many events as the clock has moved
abbrev pub LogCounts : Type 0
LogCounts = (constants : List ℕ) (kernel : List (List ℕ)) (limit : ℕ) (s t : State) (events : List Event)
    → IsLog constants kernel limit s events t → t.core.clock ≡ s.core.clock + length events

-- from a well-formed state each cycle is whole, and the last state is well-formed
abbrev pub RunIsWhole : Type 0
RunIsWhole = (constants : List ℕ) (kernel : List (List ℕ)) (limit : ℕ) (tree : Tree) (s t : State) (events : List Event)
    → length constants ≡ number_of_constants → IsWhole tree → IsWellFormed s → execution constants kernel limit tree s ≡ Done t events
    → All IsWholeEvent events × IsWellFormed t

-- no more than 1,024 blocks have started and not ended, and at the end as many as at the start
abbrev pub RunNests : Type 0
RunNests = (constants : List ℕ) (kernel : List (List ℕ)) (limit : ℕ) (tree : Tree) (s t : State) (events : List Event)
    → IsWhole tree → s.core.nesting ≤ most_nesting → execution constants kernel limit tree s ≡ Done t events
    → All (λ e. e.core.nesting ≤ most_nesting) events × (t.core.nesting ≡ s.core.nesting)

-- the stack has at most as many cells more as the clock has moved
abbrev pub RunIsShallow : Type 0
RunIsShallow = (constants : List ℕ) (kernel : List (List ℕ)) (limit : ℕ) (tree : Tree) (s t : State) (events : List Event)
    → length constants ≡ number_of_constants → IsWhole tree → IsWellFormed s → execution constants kernel limit tree s ≡ Done t events
    → All (λ e. length e.core.stack + s.core.clock ≤ length s.core.stack + e.core.clock) events
    × (length t.core.stack + s.core.clock ≤ length s.core.stack + t.core.clock)

-- a context is one that the clock has reached
abbrev pub RunIsWithinContexts : Type 0
RunIsWithinContexts = (constants : List ℕ) (kernel : List (List ℕ)) (limit : ℕ) (tree : Tree) (s t : State) (events : List Event)
    → IsWhole tree → s.core.context ≤ s.core.clock → execution constants kernel limit tree s ≡ Done t events
    → All (λ e. e.core.context ≤ e.core.clock) events × (t.core.context ≤ t.core.clock)
