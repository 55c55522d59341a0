-- Chains of statements, and the run through all of a chain's trees.
use Rattle.std.specs.Prelude.{◌≡◌, ℕ, List, [], ◌∷◌, map}
use Rattle.std.specs.List.{AllByRecursion}
use Rattle.vm_field.specs.Machine.{State, Stands, start}
use Rattle.vm_state.specs.declared.statement.Statement.{Statement}
use Rattle.block_tree.specs.Trees.{Tree}
use Rattle.block_tree.specs.Execution.{Event, Done, execution}
use Rattle.run_chain.specs.Following.{first_stack, Follows}

-- each statement follows the one before, the first of them this one
abbrev pub FollowOn : Statement → List Statement → Type 0
FollowOn a [] = Unit {0}
FollowOn a (b ∷ later) = Follows a b × FollowOn b later

-- each statement follows the one before
abbrev pub AreChained : List Statement → Type 0
AreChained [] = Unit {0}
AreChained (a ∷ later) = FollowOn a later

-- what is run at a link: a tree, for at most so many cycles, with a tape of its own
pub record Leg : Type 0 where
  pub kernel : List (List ℕ)
  pub cycles : ℕ
  pub tree : Tree
  pub tape : List ℕ

-- the state at the start of a run with this tape, but for the stack: a fresh memory, the clock at 0
abbrev pub fresh : List ℕ → List ℕ → State
fresh stack tape = record { core = record (start [] tape).core { stack = stack }; tape = tape }

-- from a state the tree is done, with these outputs and the tape used up
pub record Ends (constants : List ℕ) (leg : Leg) (s : State) (outputs : List ℕ) : Type 0 where
  pub state : State
  pub events : List Event
  pub done : execution constants leg.kernel leg.cycles leg.tree s ≡ Done state events
  pub stands : Stands state outputs

-- through all legs in turn, each with a fresh memory, its own tape and the stack that the one before left
abbrev pub RunsThrough : List ℕ → List Leg → List ℕ → List ℕ → Type 0
RunsThrough constants [] stack outputs = stack ≡ outputs
RunsThrough constants (leg ∷ legs) stack outputs =
    (left : List ℕ) × Ends constants leg (fresh stack leg.tape) left × RunsThrough constants legs left outputs

-- a statement, and the run that shows it
pub record Link : Type 0 where
  pub statement : Statement
  pub cycles : ℕ
  pub tree : Tree
  pub tape : List ℕ

abbrev pub leg_of : Link → Leg
leg_of link = record { kernel = link.statement.kernel; cycles = link.cycles; tree = link.tree; tape = link.tape }

-- the tree runs from the statement's inputs to its outputs
abbrev pub IsRun : List ℕ → Link → Type 0
IsRun constants link = Ends constants (leg_of link) (start link.statement.inputs link.tape) link.statement.outputs

abbrev pub last_outputs : Link → List Link → List ℕ
last_outputs first [] = first.statement.outputs
last_outputs first (link ∷ later) = last_outputs link later

-- a chain of runs is one run, from the stack with which the first inputs start to the last outputs
abbrev pub ChainIsRun : Type 0
ChainIsRun = (constants : List ℕ) (first : Link) (later : List Link)
    → AreChained (map (λ link. link.statement) (first ∷ later))
    → AllByRecursion (IsRun constants) (first ∷ later)
    → RunsThrough constants (map leg_of (first ∷ later)) (first_stack first.statement.inputs) (last_outputs first later)
