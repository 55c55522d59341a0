-- What a run of the program that walks a path says.
use Rattle.std.specs.Prelude.{◌≡◌, ℕ, List, [], length, All}
use Rattle.vm_field.specs.Field.{AreElements}
use Rattle.vm_field.specs.Limits.{number_of_constants}
use Rattle.vm_field.specs.Machine.{IsWord, State, filled_up, start}
use Rattle.block_tree.specs.Execution.{Event, Done, execution}
use Rattle.merkle_lib.specs.declared.paths.Step.{Step}
use Rattle.merkle_lib.specs.Paths.{Leads, tape_of}
use Rattle.merkle_lib.specs.Programs.{leaf_on, root_on, walk_tree}

-- with some kernel and some limit the program of that depth is done, from these inputs, and has used up the tape
pub record RunsOut (constants : List ℕ) (depth : ℕ) (inputs tape : List ℕ) : Type 0 where
  pub kernel : List (List ℕ)
  pub limit : ℕ
  pub state : State
  pub events : List Event
  pub done : execution constants kernel limit (walk_tree depth) (start inputs tape) ≡ Done state events
  pub used : state.tape ≡ []

-- the tape is that of a path of so many steps, which leads from the leaf that lies on top of the stack to the root below it
pub record IsPath (constants : List ℕ) (depth : ℕ) (stack tape : List ℕ) (path : List Step) : Type 0 where
  pub steps : length path ≡ depth
  pub words : All (λ step. IsWord step.sibling) path
  pub tape_is : tape ≡ tape_of path
  pub leads : Leads constants (leaf_on stack) path (root_on stack)

-- a run of the program means that its tape is a path from the leaf to the root
abbrev pub RunIsPath : Type 0
RunIsPath = (constants : List ℕ) (depth : ℕ) (inputs tape : List ℕ) → length constants ≡ number_of_constants
    → AreElements inputs → AreElements tape → RunsOut constants depth inputs tape
    → (path : List Step) × IsPath constants depth (filled_up inputs) tape path
