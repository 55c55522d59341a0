-- What the parts of the assembler say of their answers in memory.
use Rattle.std.specs.Prelude.{◌≡◌, ℕ, Bool, true, List, [], Option, Some, None, Result, Ok, Err, Vec, ◌⊎◌}
use Rattle.std.specs.Global.{Global}
use Rattle.block_tree.specs.declared.exports.Export.{Export}
use Rattle.block_tree.specs.Trees.{tree_digest}
use Rattle.block_tree.specs.TreeView.{tree_of}
use Rattle.masm_flat.specs.declared.outside.KernelProc.{KernelProc}
use Rattle.masm_flat.specs.Lists.{Exported, outside_of}
use Rattle.masm_tree.specs.Trees.{Source}
use Rattle.masm_link.specs.declared.linking.Linked.{Linked}
use Rattle.masm_link.specs.declared.refusal.AsmError.{AsmError}
use Rattle.masm_link.specs.declared.refusal.AsmError.TheVariants.{Bad, Memory}
use Rattle.masm_link.specs.Assembling.{reads, Refuses, KernelExports}
use Rattle.masm_link.specs.Libraries.{LibraryProcedure, with_library}
use Rattle.masm_tables.specs.Kernels.{AreExports}
use Rattle.masm_link.specs.Measures.{IsLinked}

-- what an error says of the sources: its refusal, if it is one
abbrev pub refusal_in : AsmError → Option AsmError
refusal_in (Bad in_kernel line column cause) = Some (Bad in_kernel line column cause)
refusal_in Memory = None

-- what a source links to with a library and a kernel's exports in memory, or its first refusal, or the want of memory
abbrev pub LinksIn : List ℕ → Bool → List LibraryProcedure → List ℕ → List KernelProc → Result Linked AsmError → Type 0
LinksIn constants is_kernel library text kernel (Ok linked) =
    (exports : List Exported) → AreExports exports kernel
    → (source : Source) × (reads is_kernel text ≡ Ok source) × IsLinked (with_library library source) (outside_of constants exports) linked
LinksIn constants is_kernel library text kernel (Err refusal) =
    (refusal ≡ Memory)
    ⊎ ((exports : List Exported) → AreExports exports kernel → Refuses is_kernel library text (outside_of constants exports) refusal)

-- a kernel's exports in memory, or the kernel's first refusal, or the want of memory
abbrev pub ExportsIn : List ℕ → Option (List ℕ) → Result (Vec KernelProc Global) AsmError → Type 0
ExportsIn constants kernel (Ok procs) = (exports : List Exported) × KernelExports constants kernel exports × AreExports exports procs.items
ExportsIn constants kernel (Err refusal) =
    (refusal ≡ Memory) ⊎ ((text : List ℕ) × (kernel ≡ Some text) × Refuses true [] text (outside_of constants []) refusal)

abbrev pub digest_in : List ℕ → KernelProc → List ℕ
digest_in constants p = tree_digest constants (tree_of p.tree)

abbrev pub export_in : List ℕ → KernelProc → Export
export_in constants p = record { name = p.name; digest = digest_in constants p }
