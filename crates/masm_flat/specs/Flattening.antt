-- What a body is flattened to, where the lists of the procedures that it uses are given.
use Rattle.std.specs.Prelude.{ℕ, List, [], ◌∷◌, ◌++◌, map}
use Rattle.masm_expand.specs.Expansion.{expansion}
use Rattle.masm_tree.specs.declared.terminal.Leaf.TheVariants as leaves
use Rattle.masm_tree.specs.Trees.{Body, Empty, Leaf_then, If_then, While_then, Repeat_then}
use Rattle.masm_flat.specs.Blocks.{View, Piece, Operation, Whole, whole}
use Rattle.masm_flat.specs.Lists.{times, digest_items}

-- by name, the list and the digest of each procedure of the source, and the block of each of the kernel; and the block of a
-- dynexec
pub record Known (A : Type 0) : Type 0 where
  pub list : List ℕ → List (Piece A)
  pub digest : List ℕ → List ℕ
  pub exported : List ℕ → A
  pub dispatch : A

-- in a procedure of so many locals
abbrev pub flat_with : {A : Type 0} → View A → Known A → ℕ → Body → List (Piece A)
flat_with v known locals Empty = []
flat_with v known locals (Leaf_then at (leaves.Instr i) rest) =
    map Operation (expansion i.name i.numbers locals) ++ flat_with v known locals rest
flat_with v known locals (Leaf_then at (leaves.Exec name) rest) = known.list name ++ flat_with v known locals rest
flat_with v known locals (Leaf_then at (leaves.Call name) rest) =
    Whole (v.call (whole v (known.list name))) ∷ flat_with v known locals rest
flat_with v known locals (Leaf_then at (leaves.Syscall name) rest) =
    Whole (v.syscall (known.exported name)) ∷ flat_with v known locals rest
flat_with v known locals (Leaf_then at (leaves.ProcRef name) rest) =
    map Operation (digest_items (known.digest name)) ++ flat_with v known locals rest
flat_with v known locals (Leaf_then at leaves.DynExec rest) = Whole known.dispatch ∷ flat_with v known locals rest
flat_with v known locals (If_then at first second rest) =
    Whole (v.split (whole v (flat_with v known locals first)) (whole v (flat_with v known locals second)))
    ∷ flat_with v known locals rest
flat_with v known locals (While_then at turn rest) =
    Whole (v.loop (whole v (flat_with v known locals turn))) ∷ flat_with v known locals rest
flat_with v known locals (Repeat_then at n turn rest) =
    times n (flat_with v known locals turn) ++ flat_with v known locals rest
