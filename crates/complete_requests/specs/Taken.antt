-- What the rows of a run take of the tape.
use Rattle.std.specs.Prelude.{◌≡◌, ℕ, List, ◌++◌}
use Rattle.vm_field.specs.Machine.{State}
use Rattle.block_tree.specs.Execution as run
use Rattle.block_tree.specs.Trees.{Tree}
use Rattle.air_kit.specs.RowStates.{tape_of}
use Rattle.complete_rows.specs.BlockRows.{IsWholeRun, filled}

-- the elements that the rows take, and those that are left at the end
abbrev pub RunTakes : Type 0
RunTakes = (constants : List ℕ) (kernel : List (List ℕ)) (limit : ℕ) (tree : Tree) (inputs tape : List ℕ) (u : State) (log : List run.Event)
    → IsWholeRun constants kernel limit tree inputs tape u log
    → tape ≡ tape_of (filled constants kernel u log) ++ u.tape
