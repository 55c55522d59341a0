-- Trees whose blocks are numbered in preorder. The permutation's constants are an argument throughout.
use Rattle.std.specs.Prelude.{ℕ, ◌+◌, if◌then◌else◌, List, [], ◌∷◌, ◌++◌, length}
use Rattle.block_tree.specs.Trees.{Tree, Targets, Opaque, Span, Join, Split, Loop, Call, Syscall, Dyn, no_target, target, tree_digest}
use Rattle.tree_merge.specs.Placed as places
use Rattle.tree_merge.specs.Placed.{PlacedTree, Entry, placed_from}
use Rattle.tree_merge.specs.Merging.{is_among}
use Rattle.source_check.specs.SourceNodes.{inputs_of}

module _ (constants : List ℕ) where
  -- how many blocks a tree has
  abbrev pub blocks_in : Tree → ℕ
  blocks_in tree = length (inputs_of constants tree)

  abbrev mutual
    -- the tree whose root stands at this address, and each other block at the next one
    pub numbered : ℕ → Tree → PlacedTree
    numbered at (Opaque digest) = places.Opaque digest
    numbered at (Span batches) = places.Span at batches
    numbered at (Join first second) = places.Join at (numbered (at + 1) first) (numbered (at + 1 + blocks_in first) second)
    numbered at (Split on_one on_zero) = places.Split at (numbered (at + 1) on_one) (numbered (at + 1 + blocks_in on_one) on_zero)
    numbered at (Loop body) = places.Loop at (numbered (at + 1) body)
    numbered at (Call callee) = places.Call at (numbered (at + 1) callee)
    numbered at (Syscall callee) = places.Syscall at (numbered (at + 1) callee)
    numbered at (Dyn targets) = places.Dyn at (placed_from (numbered_in (at + 1) [] targets))

    -- Of targets of one digest only the first can be called. Each whose digest is known, as that of every one before it is, is numbered
    -- and left out.
    pub numbered_in : ℕ → List (List ℕ) → Targets → List Entry
    numbered_in at known no_target = []
    numbered_in at known (target first more) =
        if is_among (tree_digest constants first) known then numbered_in (at + blocks_in first) (known ++ tree_digest constants first ∷ []) more
        else record { digest = tree_digest constants first; tree = numbered at first }
        ∷ numbered_in (at + blocks_in first) (known ++ tree_digest constants first ∷ []) more
