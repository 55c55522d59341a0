-- The exports of a source, as they are built.
use Rattle.std.specs.Prelude.{◌≡◌, ℕ, true, false, List, [], ◌∷◌, ◌++◌, length, Some, Vec}
use Rattle.std.specs.Global.{Global}
use Rattle.block_tree.specs.TreeView.{tree_of}
use Rattle.masm_tree.specs.declared.tree.Proc.{Proc}
use Rattle.masm_flat.specs.declared.outside.KernelProc.{KernelProc}
use Rattle.masm_flat.specs.declared.piece.Piece as piece
use Rattle.masm_size.specs.declared.shape.Size as shape
use Rattle.masm_flat.specs.Blocks.{as_tree, whole}
use Rattle.masm_flat.specs.KnownLists.{list_at}
use Rattle.masm_size.specs.KnownSizes.{size_at}
use Rattle.masm_size.specs.Sizes.{extent_of}

-- a procedure's export, by the tables of lists and of sizes
pub record IsBuilt (sizes : List shape.Size) (lists : List (Vec piece.Piece Global)) (place : ℕ) (p : Proc) (export : KernelProc) : Type 0 where
  pub name : export.name ≡ p.name
  pub tree : tree_of export.tree ≡ whole as_tree (list_at lists (Some place))
  pub extent : export.extent ≡ extent_of (size_at sizes (Some place))

-- the exports of these procedures, in order
pub data AreBuilt (sizes : List shape.Size) (lists : List (Vec piece.Piece Global)) : List Proc → List KernelProc → Type 0 where
  none : AreBuilt sizes lists [] []
  exported : {procs : List Proc} {exports : List KernelProc} (p : Proc) (export : KernelProc) → AreBuilt sizes lists procs exports → p.exported ≡ true
      → IsBuilt sizes lists (length procs) p export → AreBuilt sizes lists (procs ++ p ∷ []) (exports ++ export ∷ [])
  inner : {procs : List Proc} {exports : List KernelProc} (p : Proc) → AreBuilt sizes lists procs exports → p.exported ≡ false
      → AreBuilt sizes lists (procs ++ p ∷ []) exports
