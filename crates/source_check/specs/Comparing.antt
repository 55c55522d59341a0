-- What comparing the tree of a run with that of a source gives.
use Rattle.std.specs.Prelude.{◌≡◌, ℕ, ◌-◌, List}
use Rattle.block_tree.specs.Trees.{Tree, Refines}
use Rattle.block_tree.specs.TreeView.{tree_of}
use Rattle.air_kit.specs.declared.trace.Trace.{Trace}
use Rattle.tree_merge.specs.declared.addr_tree.MergeStop.{MergeStop}
use Rattle.tree_merge.specs.declared.addr_tree.MergeStop.TheVariants as stop
use Rattle.source_check.specs.SourceEvidences.{IsNodeClash}
use Rattle.source_check.specs.declared.comparing.Compared.{Compared}
use Rattle.source_check.specs.declared.comparing.Compared.TheVariants.{Merged, Clash}

-- a tree that refines both
pub record RefinesBoth (constants : List ℕ) (source run tree : Tree) : Type 0 where
  pub refines : Refines constants tree source
  pub fits : Refines constants tree run

abbrev pub IsCompared : List ℕ → Trace → Tree → Tree → Compared → Type 0
IsCompared constants t source run (Merged tree) = RefinesBoth constants source run (tree_of tree)
IsCompared constants t source run (Clash address node) = IsNodeClash constants t source address node

-- of a pair, the second address counts the rows of the table and the blocks up to this one
abbrev pub IsClashOf : ℕ → MergeStop → Compared → Type 0
IsClashOf rows (stop.Pair first second) c = c ≡ Clash first (second - rows)
IsClashOf rows stop.Memory c = ⊥
