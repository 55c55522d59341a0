-- A bus is even over the rows of a run: each tuple is given as often as it is asked.
use Rattle.std.specs.Prelude.{◌≡◌, ℕ, ◌+◌, List, [], ◌∷◌}
use Rattle.vm_field.specs.Machine.{State}
use Rattle.block_tree.specs.Execution as run
use Rattle.block_tree.specs.Trees.{Tree, tree_digest}
use Rattle.buses.specs.Counts.{Counted, counted, over_rows, with_next}
use Rattle.air_kit.specs.MainTuples.{child, blocks_asked, blocks_given, children_asked, children_given, groups_asked, groups_given, loops_asked, loops_given}
use Rattle.complete_rows.specs.BlockRows.{IsWholeRun, filled}

-- of what a row and the row behind it give and ask
abbrev pub AreEven : (List ℕ → List ℕ → List Counted) → (List ℕ → List ℕ → List Counted) → Type 0
AreEven given asked =
    (constants : List ℕ) (kernel : List (List ℕ)) (limit : ℕ) (tree : Tree) (inputs tape : List ℕ) (u : State)
    (log : List run.Event)
    → IsWholeRun constants kernel limit tree inputs tape u log → (tuple : List ℕ)
    → over_rows (with_next given) (filled constants kernel u log) tuple ≡ over_rows (with_next asked) (filled constants kernel u log) tuple

abbrev pub BlocksAreEven : Type 0
BlocksAreEven = AreEven blocks_given blocks_asked

abbrev pub LoopsAreEven : Type 0
LoopsAreEven = AreEven loops_given loops_asked

abbrev pub GroupsAreEven : Type 0
GroupsAreEven = AreEven groups_given groups_asked

-- the statement names the whole tree
abbrev pub ChildrenAreEven : Type 0
ChildrenAreEven = (constants : List ℕ) (kernel : List (List ℕ)) (limit : ℕ) (tree : Tree) (inputs tape : List ℕ) (u : State) (log : List run.Event)
    → IsWholeRun constants kernel limit tree inputs tape u log → (tuple : List ℕ)
    → counted (child 0 (tree_digest constants tree) 0 ∷ []) tuple
    + over_rows (with_next children_given) (filled constants kernel u log) tuple
    ≡ over_rows (with_next children_asked) (filled constants kernel u log) tuple
