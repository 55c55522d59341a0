-- How many blocks a tree has.
use Rattle.std.proofs.Common.{◌≡◌, ℕ, ◌+◌, ◌≤◌, List, length, arith}
use Rattle.block_tree.specs.Trees.{Tree, Targets, Opaque, Span, Join, Split, Loop, Call, Syscall, Dyn}
use Rattle.source_check.specs.Numbering.{blocks_in}
use Rattle.source_check.specs.SourceNodes.{inputs_in}

module _ (constants : List ℕ) where
  -- a tree is itself a block
  pub some-block : (t : Tree) → 1 ≤ blocks_in constants t
  some-block (Opaque digest) = omega arith
  some-block (Span batches) = omega arith
  some-block (Join a b) = omega arith
  some-block (Split a b) = omega arith
  some-block (Loop a) = omega arith
  some-block (Call a) = omega arith
  some-block (Syscall a) = omega arith
  some-block (Dyn ts) = omega arith

  pub blocks-dyn : (ts : Targets) → blocks_in constants (Dyn ts) ≡ 1 + length (inputs_in constants ts)
  blocks-dyn ts = omega arith
