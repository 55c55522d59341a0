-- That a tree is whole is known in one way at most, so that it may be a fact of a type.
use denote.Struct.Props as logic
use Rattle.block_tree.specs.Trees.{Tree, Targets, Opaque, Span, Join, Split, Loop, Call, Syscall, Dyn, no_target, target, IsWhole, AreWhole}

mutual
  pub IsWhole-prop : (tree : Tree) → IsProp (IsWhole tree)
  IsWhole-prop (Opaque digest) = Prim.hlevel logic.props
  IsWhole-prop (Span batches) = Prim.hlevel logic.props
  IsWhole-prop (Join a b) = let x = IsWhole-prop a in let y = IsWhole-prop b in Prim.hlevel logic.props
  IsWhole-prop (Split a b) = let x = IsWhole-prop a in let y = IsWhole-prop b in Prim.hlevel logic.props
  IsWhole-prop (Loop a) = IsWhole-prop a
  IsWhole-prop (Call a) = IsWhole-prop a
  IsWhole-prop (Syscall a) = IsWhole-prop a
  IsWhole-prop (Dyn targets) = AreWhole-prop targets

  pub AreWhole-prop : (targets : Targets) → IsProp (AreWhole targets)
  AreWhole-prop no_target = Prim.hlevel logic.props
  AreWhole-prop (target first more) = let x = IsWhole-prop first in let y = AreWhole-prop more in Prim.hlevel logic.props
