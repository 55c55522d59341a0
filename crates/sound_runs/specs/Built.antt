-- The tree of a block, built along its rows. The permutation's constants and what is hashed at an address are arguments throughout.
use Rattle.std.specs.Prelude.{◌≡◌, ℕ, suc, List, Option}
use Rattle.vm_field.specs.Sponge.{HashInput}
use Rattle.vm_ops.specs.declared.op.Op.TheVariants as ops
use Rattle.vm_table.specs.MainColumns.{s}
use Rattle.block_tree.specs.Trees.{Refines}
use Rattle.air_kit.specs.MainTuples.{front, back, called_digest}
use Rattle.vm_table.specs.Layout.{row_at}
use Rattle.sound_buses.specs.Blocks.{IsAt, Closes, own}
use Rattle.sound_blocks.specs.Nesting.{TurnsAgain}
use Rattle.sound_blocks.specs.Spans.{AreBatches}
use Rattle.tree_merge.specs.Placed.{PlacedTree, Opaque, Span, Join, Split, Loop, Call, Syscall, Dyn, no_placed, placed, plain}
use Rattle.tree_merge.specs.Merging.{Good}

module _ (constants : List ℕ) (comp : ℕ → Option HashInput) (rows : List (List ℕ)) where
  mutual
    -- The block that starts in row j and ends in row e has this tree. What did not run is known by its digest: the other branch of a
    -- split, and the body of a loop that was not entered. Of a dynamic block the one target is known that ran.
    pub data Built : ℕ → ℕ → PlacedTree → Type 0 where
      span : {j e : ℕ} {batches : List (List ℕ)} → IsAt rows j ops.Span → Closes rows j e → AreBatches rows j e batches
          → Built j e (Span (own rows j) batches)
      join : {j a b : ℕ} {x y : PlacedTree} → IsAt rows j ops.Join → Closes rows j (suc b) → Built (suc j) a x → Built (suc a) b y
          → front (row_at rows a) ≡ front (row_at rows j) → front (row_at rows b) ≡ back (row_at rows j)
          → Built j (suc b) (Join (own rows j) x y)
      split_one : {j a : ℕ} {x : PlacedTree} → IsAt rows j ops.Split → s (row_at rows j) 0 ≡ 1 → Closes rows j (suc a) → Built (suc j) a x
          → front (row_at rows a) ≡ front (row_at rows j) → Built j (suc a) (Split (own rows j) x (Opaque (back (row_at rows j))))
      split_zero : {j a : ℕ} {x : PlacedTree} → IsAt rows j ops.Split → s (row_at rows j) 0 ≡ 0 → Closes rows j (suc a) → Built (suc j) a x
          → front (row_at rows a) ≡ back (row_at rows j) → Built j (suc a) (Split (own rows j) (Opaque (front (row_at rows j))) x)
      loop_skipped : {j : ℕ} → IsAt rows j ops.Loop → s (row_at rows j) 0 ≡ 0 → Closes rows j (suc j)
          → Built j (suc j) (Loop (own rows j) (Opaque (front (row_at rows j))))
      loop_entered : {j e : ℕ} {x : PlacedTree} → IsAt rows j ops.Loop → s (row_at rows j) 0 ≡ 1 → Closes rows j e → Good constants comp x
          → Turns j (suc j) e x → Built j e (Loop (own rows j) x)
      call : {j a : ℕ} {x : PlacedTree} → IsAt rows j ops.Call → Closes rows j (suc a) → Built (suc j) a x
          → front (row_at rows a) ≡ front (row_at rows j) → Built j (suc a) (Call (own rows j) x)
      syscall : {j a : ℕ} {x : PlacedTree} → IsAt rows j ops.Syscall → Closes rows j (suc a) → Built (suc j) a x
          → front (row_at rows a) ≡ front (row_at rows j) → Built j (suc a) (Syscall (own rows j) x)
      dyn : {j a : ℕ} {x : PlacedTree} → IsAt rows j ops.Dyn → Closes rows j (suc a) → Built (suc j) a x
          → front (row_at rows a) ≡ called_digest (row_at rows j)
          → Built j (suc a) (Dyn (own rows j) (placed (called_digest (row_at rows j)) x no_placed))

    -- From row a on, the loop that starts in row j and ends in row e makes its turns, and this tree refines the tree of each.
    pub data Turns : ℕ → ℕ → ℕ → PlacedTree → Type 0 where
      last : {j a b : ℕ} {x y : PlacedTree} → Built a b y → Refines constants (plain x) (plain y) → front (row_at rows b) ≡ front (row_at rows j)
          → Closes rows j (suc b) → Turns j a (suc b) x
      more : {j a b e : ℕ} {x y : PlacedTree} → Built a b y → Refines constants (plain x) (plain y) → front (row_at rows b) ≡ front (row_at rows j)
          → TurnsAgain rows j (suc b) → Turns j (suc (suc b)) e x → Turns j a e x
