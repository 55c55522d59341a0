-- Trees that are known whole: those that the assembler makes, and that run up to their end or to a trap of their values.
use Rattle.std.specs.Prelude.{◌≢◌, []}
use Rattle.std.specs.List.{AllByRecursion}
use Rattle.block_tree.specs.Trees.{Tree, Targets, Opaque, Span, Join, Split, Loop, Call, Syscall, Dyn, no_target, target}
use Rattle.block_tree.specs.Behind.{HasReading}

-- each block of the tree is known whole
abbrev mutual
  pub HasNoOpaque : Tree → Type 0
  HasNoOpaque (Opaque digest) = ⊥
  HasNoOpaque (Span batches) = Unit {0}
  HasNoOpaque (Join first second) = HasNoOpaque first × HasNoOpaque second
  HasNoOpaque (Split on_one on_zero) = HasNoOpaque on_one × HasNoOpaque on_zero
  HasNoOpaque (Loop body) = HasNoOpaque body
  HasNoOpaque (Call callee) = HasNoOpaque callee
  HasNoOpaque (Syscall callee) = HasNoOpaque callee
  HasNoOpaque (Dyn targets) = HaveNoOpaque targets

  pub HaveNoOpaque : Targets → Type 0
  HaveNoOpaque no_target = Unit {0}
  HaveNoOpaque (target first more) = HasNoOpaque first × HaveNoOpaque more

-- each block is known whole, and each span has batches, of which each has a reading
abbrev mutual
  pub IsReady : Tree → Type 0
  IsReady (Opaque digest) = ⊥
  IsReady (Span batches) = (batches ≢ []) × AllByRecursion HasReading batches
  IsReady (Join first second) = IsReady first × IsReady second
  IsReady (Split on_one on_zero) = IsReady on_one × IsReady on_zero
  IsReady (Loop body) = IsReady body
  IsReady (Call callee) = IsReady callee
  IsReady (Syscall callee) = IsReady callee
  IsReady (Dyn targets) = AreReady targets

  pub AreReady : Targets → Type 0
  AreReady no_target = Unit {0}
  AreReady (target first more) = IsReady first × AreReady more
