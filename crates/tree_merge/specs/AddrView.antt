-- What a tree with addresses in memory is as a tree with addresses.
use Rattle.std.specs.Prelude.{List, map}
use Rattle.tree_merge.specs.Placed as places
use Rattle.tree_merge.specs.Placed.{PlacedTree, PlacedTargets, Entry, no_placed, placed}
use Rattle.tree_merge.specs.declared.addr_tree.AddrTree.{AddrTree, Row_of-Target, end_of-Target, more_of-Target}
use Rattle.tree_merge.specs.declared.addr_tree.AddrTree.TheVariants.{Opaque, Span, Join', Split', Loop', Call', Syscall', Dyn'}
use Rattle.tree_merge.specs.declared.addr_tree.Target.{Target}

abbrev mutual
  pub placed_of : AddrTree → PlacedTree
  placed_of (Opaque digest) = places.Opaque digest
  placed_of (Span at batches) = places.Span at batches
  placed_of (Join' at p first q second) = places.Join at (placed_of first) (placed_of second)
  placed_of (Split' at p on_one q on_zero) = places.Split at (placed_of on_one) (placed_of on_zero)
  placed_of (Loop' at p body) = places.Loop at (placed_of body)
  placed_of (Call' at p callee) = places.Call at (placed_of callee)
  placed_of (Syscall' at p callee) = places.Syscall at (placed_of callee)
  placed_of (Dyn' at shape row) = places.Dyn at (row_targets row)

  pub row_targets : {n : _} → Row_of-Target n → PlacedTargets
  row_targets end_of-Target = no_placed
  row_targets (more_of-Target digest first more) = placed digest (placed_of first) (row_targets more)

-- targets in memory, with the digests that are noted beside them
abbrev pub entry_of : Target → Entry
entry_of target = record { digest = target.digest; tree = placed_of target.tree }

abbrev pub entries_of : List Target → List Entry
entries_of targets = map entry_of targets
