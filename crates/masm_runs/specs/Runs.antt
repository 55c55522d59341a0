-- The trees of assembled programs as they are run.
use Rattle.std.specs.Prelude.{◌≡◌, ℕ, ◌≤◌, true, List, Option, Ok}
use Rattle.vm_field.specs.Limits.{most_nesting}
use Rattle.vm_field.specs.Machine.{State}
use Rattle.vm_ops.specs.declared.cause.Cause.{Cause}
use Rattle.vm_ops.specs.declared.cause.Cause.TheVariants as cause
use Rattle.block_tree.specs.declared.program.Program.{Program}
use Rattle.block_tree.specs.Execution.{Outcome, Done, Trap, OutOfCycles, execution}
use Rattle.block_tree.specs.Trees.{Tree, tree_height}
use Rattle.block_tree.specs.KnownTrees.{IsReady}
use Rattle.block_tree.specs.TreeView.{tree_of}
use Rattle.masm_link.specs.Assembling.{Assembles}
use Rattle.masm_link.specs.Libraries.{LibraryProcedure, are_plain}

-- a cause that comes of the values of the run, and not of the form of the tree
abbrev pub IsOfValues : Cause → Type 0
IsOfValues cause.NestedTooDeep = ⊥
IsOfValues cause.OpaqueBlock = ⊥
IsOfValues cause.UnknownTarget = Unit {0}
IsOfValues cause.BadBatch = ⊥
IsOfValues cause.NotBinary = Unit {0}
IsOfValues cause.CallInSyscall = Unit {0}
IsOfValues cause.NotInKernel = Unit {0}
IsOfValues cause.DepthAtReturn = Unit {0}
IsOfValues cause.ZeroInverse = Unit {0}
IsOfValues cause.AddressRange = Unit {0}
IsOfValues cause.NotInSyscall = Unit {0}
IsOfValues cause.AdviceEmpty = Unit {0}
IsOfValues cause.NotU32 = Unit {0}
IsOfValues cause.DivideByZero = Unit {0}
IsOfValues cause.AssertFailed = Unit {0}

-- where the run traps, it is for such a cause
abbrev pub TrapsForValues : Outcome → Type 0
TrapsForValues (Done state events) = Unit {0}
TrapsForValues (Trap clock cause) = IsOfValues cause
TrapsForValues (OutOfCycles state events) = Unit {0}

-- from every state in which no block is open, a tree that is ready and has at most 1,024 blocks on a path
abbrev pub ReadyRuns : Type 0
ReadyRuns = (constants : List ℕ) (kernel : List (List ℕ)) (limit : ℕ) (tree : Tree) (s : State) → IsReady tree
    → tree_height tree ≤ most_nesting → s.core.nesting ≡ 0 → TrapsForValues (execution constants kernel limit tree s)

-- with every library whose instructions are in form and name no local, as those of `Library` are
abbrev pub AssembledIsReady : Type 0
AssembledIsReady = (constants : List ℕ) (library : List LibraryProcedure) (text : List ℕ) (kernel : Option (List ℕ)) (program : Program)
    → are_plain library ≡ true → Assembles constants library text kernel (Ok program) → IsReady (tree_of program.tree)

-- from every state in which no block is open
abbrev pub AssembledRuns : Type 0
AssembledRuns = (constants : List ℕ) (library : List LibraryProcedure) (text : List ℕ) (kernel : Option (List ℕ)) (program : Program)
    → are_plain library ≡ true → Assembles constants library text kernel (Ok program)
    → (parameters : List ℕ) (digests : List (List ℕ)) (limit : ℕ) (s : State) → s.core.nesting ≡ 0
    → TrapsForValues (execution parameters digests limit (tree_of program.tree) s)
