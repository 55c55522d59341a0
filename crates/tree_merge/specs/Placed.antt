-- Trees of blocks, each of which names the address of its hash.
use Rattle.std.specs.Prelude.{◌≢◌, ℕ, ◌+◌, List, [], ◌∷◌}
use Rattle.vm_ops.specs.declared.op.Op.TheVariants as op
use Rattle.vm_ops.specs.Codes.{code_of}
use Rattle.block_tree.specs.Trees as blocks
use Rattle.block_tree.specs.Trees.{Tree, Targets, tree_digest}

mutual
  pub data PlacedTree : Type 0 where
    Opaque : (digest : List ℕ) → PlacedTree  -- a block of which only the digest is known
    Span : (at : ℕ) (batches : List (List ℕ)) → PlacedTree
    Join : (at : ℕ) (first second : PlacedTree) → PlacedTree
    Split : (at : ℕ) (on_one on_zero : PlacedTree) → PlacedTree
    Loop : (at : ℕ) (body : PlacedTree) → PlacedTree
    Call : (at : ℕ) (callee : PlacedTree) → PlacedTree
    Syscall : (at : ℕ) (callee : PlacedTree) → PlacedTree
    Dyn : (at : ℕ) (targets : PlacedTargets) → PlacedTree

  -- each with the digest that is noted beside it
  pub data PlacedTargets : Type 0 where
    no_placed : PlacedTargets
    placed : (digest : List ℕ) (first : PlacedTree) (more : PlacedTargets) → PlacedTargets

-- the tree without the addresses
abbrev mutual
  pub plain : PlacedTree → Tree
  plain (Opaque digest) = blocks.Opaque digest
  plain (Span at batches) = blocks.Span batches
  plain (Join at first second) = blocks.Join (plain first) (plain second)
  plain (Split at on_one on_zero) = blocks.Split (plain on_one) (plain on_zero)
  plain (Loop at body) = blocks.Loop (plain body)
  plain (Call at callee) = blocks.Call (plain callee)
  plain (Syscall at callee) = blocks.Syscall (plain callee)
  plain (Dyn at targets) = blocks.Dyn (plain_targets targets)

  pub plain_targets : PlacedTargets → Targets
  plain_targets no_placed = blocks.no_target
  plain_targets (placed digest first more) = blocks.target (plain first) (plain_targets more)

-- the digest of a tree, under the permutation's constants
abbrev pub placed_digest : List ℕ → PlacedTree → List ℕ
placed_digest constants x = tree_digest constants (plain x)

-- the address of the root's hash, and 0 where only the root's digest is known
abbrev pub at_of : PlacedTree → ℕ
at_of (Opaque digest) = 0
at_of (Span at batches) = at
at_of (Join at first second) = at
at_of (Split at on_one on_zero) = at
at_of (Loop at body) = at
at_of (Call at callee) = at
at_of (Syscall at callee) = at
at_of (Dyn at targets) = at

-- the kind of the root: 0 where only its digest is known, and else one more than the domain that it is hashed with
abbrev pub kind_of : PlacedTree → ℕ
kind_of (Opaque digest) = 0
kind_of (Span at batches) = 1
kind_of (Join at first second) = 1 + code_of op.Join
kind_of (Split at on_one on_zero) = 1 + code_of op.Split
kind_of (Loop at body) = 1 + code_of op.Loop
kind_of (Call at callee) = 1 + code_of op.Call
kind_of (Syscall at callee) = 1 + code_of op.Syscall
kind_of (Dyn at targets) = 1 + code_of op.Dyn

-- the digests that are noted beside targets, in order
abbrev pub noted_in : PlacedTargets → List (List ℕ)
noted_in no_placed = []
noted_in (placed digest first more) = digest ∷ noted_in more

-- those beside the targets of the root, if it has any
abbrev pub noted_at : PlacedTree → List (List ℕ)
noted_at (Opaque digest) = []
noted_at (Span at batches) = []
noted_at (Join at first second) = []
noted_at (Split at on_one on_zero) = []
noted_at (Loop at body) = []
noted_at (Call at callee) = []
noted_at (Syscall at callee) = []
noted_at (Dyn at targets) = noted_in targets

-- no target has this digest noted beside it
abbrev pub Absent : List ℕ → PlacedTargets → Type 0
Absent digest no_placed = Unit {0}
Absent digest (placed noted first more) = (noted ≢ digest) × Absent digest more

-- a target, and the digest that is noted beside it
pub record Entry : Type 0 where
  pub digest : List ℕ
  pub tree : PlacedTree

abbrev pub placed_from : List Entry → PlacedTargets
placed_from [] = no_placed
placed_from (entry ∷ entries) = placed entry.digest entry.tree (placed_from entries)
