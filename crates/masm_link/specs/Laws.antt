-- The trees of assembled programs, and that a source has one.
use Rattle.std.specs.Prelude.{◌≡◌, ◌≢◌, ℕ, ◌≤◌, List, Option, Result, Ok, Err}
use Rattle.vm_field.specs.Limits.{most_nesting, most_operations}
use Rattle.block_tree.specs.declared.program.Program.{Program}
use Rattle.block_tree.specs.Trees.{Tree, tree_height}
use Rattle.block_tree.specs.KnownTrees.{HasNoOpaque}
use Rattle.block_tree.specs.TreeView.{tree_of}
use Rattle.masm_flat.specs.Blocks.{Block, seen_as, as_tree, as_operations}
use Rattle.masm_link.specs.declared.refusal.AsmError.{AsmError}
use Rattle.masm_link.specs.declared.refusal.AsmError.TheVariants.{Memory}
use Rattle.masm_link.specs.Assembling.{Assembles}
use Rattle.masm_link.specs.Libraries.{LibraryProcedure}

-- the tree of a block within the limits
pub record IsWithinLimits (tree : Tree) (block : Block) : Type 0 where
  pub is : tree ≡ seen_as as_tree block
  pub operations : seen_as as_operations block ≤ most_operations
  pub height : tree_height tree ≤ most_nesting
  pub whole : HasNoOpaque tree

abbrev pub AssembledTrees : Type 0
AssembledTrees = (constants : List ℕ) (library : List LibraryProcedure) (text : List ℕ) (kernel : Option (List ℕ)) (program : Program)
    → Assembles constants library text kernel (Ok program) → (block : Block) × IsWithinLimits (tree_of program.tree) block

-- an answer is this program, but for how its tree lies in memory, or the want of memory
abbrev pub IsProgramOrMemory : Program → Result Program AsmError → Type 0
IsProgramOrMemory program (Ok other) =
    (tree_of other.tree ≡ tree_of program.tree) × (other.exports ≡ program.exports) × (other.kernel ≡ program.kernel)
IsProgramOrMemory program (Err refusal) = refusal ≡ Memory

-- what is assembled is assembled to one program, and is not refused
abbrev pub OneProgram : Type 0
OneProgram = (constants : List ℕ) (library : List LibraryProcedure) (text : List ℕ) (kernel : Option (List ℕ)) (program : Program)
    (answer : Result Program AsmError) → Assembles constants library text kernel (Ok program) → Assembles constants library text kernel answer
    → IsProgramOrMemory program answer

-- what is refused has one refusal: two that are answered, neither of them the want of memory, are equal
abbrev pub OneRefusal : Type 0
OneRefusal = (constants : List ℕ) (library : List LibraryProcedure) (text : List ℕ) (kernel : Option (List ℕ)) (one other : AsmError)
    → one ≢ Memory → other ≢ Memory → Assembles constants library text kernel (Err one)
    → Assembles constants library text kernel (Err other) → one ≡ other
