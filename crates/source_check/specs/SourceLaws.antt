-- The law of sources that ran.
use Rattle.std.specs.Prelude.{◌≡◌, ℕ, List}
use Rattle.block_tree.specs.KnownTrees.{HasNoOpaque}
use Rattle.block_tree.specs.Trees.{Tree, Opaque, Span, Join, Split, Loop, Call, Syscall, Dyn, Refines}

-- no block is dynamic
abbrev pub HasNoDyn : Tree → Type 0
HasNoDyn (Opaque digest) = Unit {0}
HasNoDyn (Span batches) = Unit {0}
HasNoDyn (Join first second) = HasNoDyn first × HasNoDyn second
HasNoDyn (Split on_one on_zero) = HasNoDyn on_one × HasNoDyn on_zero
HasNoDyn (Loop body) = HasNoDyn body
HasNoDyn (Call callee) = HasNoDyn callee
HasNoDyn (Syscall callee) = HasNoDyn callee
HasNoDyn (Dyn targets) = ⊥

-- a tree that refines one of which each block is known and none is dynamic is this one
abbrev pub RanIsSource : Type 0
RanIsSource = (constants : List ℕ) (tree source : Tree) → HasNoOpaque source → HasNoDyn source → Refines constants tree source → tree ≡ source
