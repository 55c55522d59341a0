-- The laws of cycles: where one is done, and that a run is one cycle after another.
use Rattle.std.specs.Prelude.{◌≡◌, ◌↔◌, ℕ, List, [], ◌∷◌, Ok}
use Rattle.vm_field.specs.Machine.{Core, State}
use Rattle.block_tree.specs.Behind.{IsAllowed, core_behind}
use Rattle.block_tree.specs.Cycles.{Mark, effect_of}
use Rattle.block_tree.specs.Execution.{Event, Done, execution}
use Rattle.block_tree.specs.Steps.{Block, Steps}
use Rattle.block_tree.specs.Trees.{Tree, IsWhole}

-- a cycle is done exactly where it is allowed, and leaves one state behind it
abbrev pub DoneWhereAllowed : Type 0
DoneWhereAllowed = (constants : List ℕ) (kernel : List (List ℕ)) (mark : Mark) (advice : List ℕ) (c d : Core)
    → (effect_of constants kernel mark advice c ≡ Ok d) ↔ (IsAllowed constants kernel mark advice c × (d ≡ core_behind constants mark advice c))

-- a run of a whole tree that is done is done one cycle after another
abbrev pub RunIsSteps : Type 0
RunIsSteps = (constants : List ℕ) (kernel : List (List ℕ)) (limit : ℕ) (tree : Tree) (s t : State) (events : List Event)
    → IsWhole tree → execution constants kernel limit tree s ≡ Done t events
    → Steps constants kernel limit (Block tree ∷ []) s events t

-- and what is done one cycle after another is a run that is done
abbrev pub StepsAreRun : Type 0
StepsAreRun = (constants : List ℕ) (kernel : List (List ℕ)) (limit : ℕ) (tree : Tree) (s t : State) (events : List Event)
    → Steps constants kernel limit (Block tree ∷ []) s events t → execution constants kernel limit tree s ≡ Done t events
