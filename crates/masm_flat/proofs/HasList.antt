-- A body has a list where the procedures that it uses, and those that its dynexecs may run, have one, and its system calls lead
-- to the kernel.
use Rattle.masm_flat.proofs.Words.{◌≡◌, ℕ, List, [], Some, Body, Empty, Leaf_then, If_then, While_then, Repeat_then, Source, Block, Outside, ListOf, ListsOf}
use Rattle.masm_flat.proofs.Words.{IsList, nothing, instr, exec, call, procref, syscall, dynexec, branches, loops, repeated, first_export, UsesOnly, SyscallsOnly}
use Rattle.masm_flat.proofs.Words.{target_names}
use Rattle.masm_tree.specs.declared.terminal.Leaf.TheVariants as leaves
use Rattle.masm_flat.specs.Blocks.{Piece}
use Rattle.masm_flat.proofs.DynamicBodies.{DynexecsOnly}

module _ {source : Source} {out : Outside} (P Q : List ℕ → Type 0) (D : Type 0)
    (used : (name : List ℕ) → P name → (ys : List (Piece Block)) × ListOf source out name ys)
    (exported : (name : List ℕ) → Q name → (block : Block) × (first_export out.exports name ≡ Some block))
    (targets : D → (lists : List (List (Piece Block))) × ListsOf source out (target_names source) lists) where
  pub has_list : (locals : ℕ) (b : Body) → UsesOnly P P b → SyscallsOnly Q b → DynexecsOnly D b
      → (xs : List (Piece Block)) × IsList source out locals b xs
  has_list locals Empty u s o = ([], nothing)
  has_list locals (Leaf_then at (leaves.Instr i) rest) u s o = (_, instr at i (has_list locals rest u s o).1)
  has_list locals (Leaf_then at (leaves.Exec name) rest) u s o = (_, exec at name (used name u.0).1 (has_list locals rest u.1 s o).1)
  has_list locals (Leaf_then at (leaves.Call name) rest) u s o = (_, call at name (used name u.0).1 (has_list locals rest u.1 s o).1)
  has_list locals (Leaf_then at (leaves.ProcRef name) rest) u s o = (_, procref at name (used name u.0).1 (has_list locals rest u.1 s o).1)
  has_list locals (Leaf_then at (leaves.Syscall name) rest) u s o = (_, syscall at name (exported name s.0).1 (has_list locals rest u s.1 o).1)
  has_list locals (Leaf_then at leaves.DynExec rest) u s o = (_, dynexec at (targets o.0).1 (has_list locals rest u s o.1).1)
  has_list locals (If_then at first second rest) u s o =
      (_, branches at (has_list locals first u.0 s.0 o.0).1 (has_list locals second u.1 s.1 o.1).1 (has_list locals rest u.2 s.2 o.2).1)
  has_list locals (While_then at turn rest) u s o = (_, loops at (has_list locals turn u.0 s.0 o.0).1 (has_list locals rest u.1 s.1 o.1).1)
  has_list locals (Repeat_then at n turn rest) u s o = (_, repeated at n (has_list locals turn u.0 s.0 o.0).1 (has_list locals rest u.1 s.1 o.1).1)
