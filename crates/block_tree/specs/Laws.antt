-- The laws of digests, of refinement and of runs.
use Rattle.std.specs.Prelude.{◌≡◌, ℕ, ◌<◌, ◌≤◌, List, [], ◌∷◌, ◌++◌, length, Some}
use Rattle.vm_field.specs.Limits.{number_of_constants}
use Rattle.vm_field.specs.Machine.{State, IsWord}
use Rattle.vm_field.specs.Sponge.{HashInput, digest_of_input}
use Rattle.block_tree.specs.Trees.{Tree, Targets, Dyn, IsWhole, Refines, first_target, input_of, tree_digest}
use Rattle.block_tree.specs.Execution.{Event, Done, IsCutOff, execution}

-- what a run's cycles took of the tape, in order
abbrev pub tape_taken : List Event → List ℕ
tape_taken [] = []
tape_taken (event ∷ events) = event.advice ++ tape_taken events

abbrev pub with_tape : State → List ℕ → State
with_tape s tape = record s { tape = tape }

-- a tree's digest is that of its hash input
abbrev pub DigestOfInput : Type 0
DigestOfInput = (constants : List ℕ) (t : Tree) (input : HashInput)
    → input_of constants t ≡ Some input
    → tree_digest constants t ≡ digest_of_input constants input

-- the digest of a whole tree is a word
abbrev pub DigestIsWord : Type 0
DigestIsWord = (constants : List ℕ) (t : Tree) → length constants ≡ number_of_constants → IsWhole t → IsWord (tree_digest constants t)

-- each tree refines itself
abbrev pub RefinesItself : Type 0
RefinesItself = (constants : List ℕ) (t : Tree) → Refines constants t t

-- what refines a tree refines each tree that this one refines
abbrev pub RefinesThrough : Type 0
RefinesThrough = (constants : List ℕ) (t u v : Tree) → Refines constants t u → Refines constants u v → Refines constants t v

-- a tree has the digest of each tree that it refines
abbrev pub RefinedDigest : Type 0
RefinedDigest = (constants : List ℕ) (t u : Tree) → Refines constants t u → tree_digest constants t ≡ tree_digest constants u

-- what refines a dynamic block has a target of each digest that the block has one of, and its first refines the block's first
abbrev pub FirstTargetRefined : Type 0
FirstTargetRefined = (constants : List ℕ) (ts us : Targets) → Refines constants (Dyn ts) (Dyn us)
    → (digest : List ℕ) (u : Tree) → first_target constants digest us ≡ Some u
    → (t : Tree) × (first_target constants digest ts ≡ Some t) × Refines constants t u

-- where a tree is done, each tree that refines it is done in the same state with the same events
abbrev pub RefinedRun : Type 0
RefinedRun = (constants : List ℕ) (kernel : List (List ℕ)) (limit : ℕ) (t u : Tree) (s s' : State) (events : List Event)
    → Refines constants t u
    → execution constants kernel limit u s ≡ Done s' events
    → execution constants kernel limit t s ≡ Done s' events

-- what is done at one limit is done the same at each limit of its last clock or more
abbrev pub SameAtLaterLimits : Type 0
SameAtLaterLimits = (constants : List ℕ) (kernel : List (List ℕ)) (limit : ℕ) (t : Tree) (s s' : State) (events : List Event)
    → execution constants kernel limit t s ≡ Done s' events
    → (other : ℕ) → s'.core.clock ≤ other
    → execution constants kernel other t s ≡ Done s' events

-- and is cut off at each limit below
abbrev pub OutAtEarlierLimits : Type 0
OutAtEarlierLimits = (constants : List ℕ) (kernel : List (List ℕ)) (limit : ℕ) (t : Tree) (s s' : State) (events : List Event)
    → execution constants kernel limit t s ≡ Done s' events
    → (other : ℕ) → other < s'.core.clock
    → IsCutOff (execution constants kernel other t s)

-- what is done took a prefix of the tape, that of its events
abbrev pub TakesPrefix : Type 0
TakesPrefix = (constants : List ℕ) (kernel : List (List ℕ)) (limit : ℕ) (t : Tree) (s s' : State) (events : List Event)
    → execution constants kernel limit t s ≡ Done s' events
    → s.tape ≡ tape_taken events ++ s'.tape

-- on that prefix alone it is done the same, with nothing left
abbrev pub SameOnWhatItTook : Type 0
SameOnWhatItTook = (constants : List ℕ) (kernel : List (List ℕ)) (limit : ℕ) (t : Tree) (s s' : State) (events : List Event)
    → execution constants kernel limit t s ≡ Done s' events
    → execution constants kernel limit t (with_tape s (tape_taken events)) ≡ Done (with_tape s' []) events
