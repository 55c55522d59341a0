-- What a kernel exports, in memory.
use Rattle.std.specs.Prelude.{◌≡◌, ℕ, ◌≤◌, List, length, map}
use Rattle.std.specs.List.{AllZip}
use Rattle.vm_field.specs.Limits.{number_of_constants}
use Rattle.block_tree.specs.TreeView.{tree_of}
use Rattle.masm_flat.specs.declared.outside.KernelProc.{KernelProc}
use Rattle.masm_flat.specs.Blocks.{seen_as, as_tree, as_operations}
use Rattle.masm_flat.specs.Lists.{Exported, Outside}
use Rattle.masm_size.specs.Sizes.{as_extent}

-- an export with its tree, which has an operation, and how large that is
pub record IsExport (e : Exported) (p : KernelProc) : Type 0 where
  pub name : p.name ≡ e.name
  pub tree : tree_of p.tree ≡ seen_as as_tree e.block
  pub extent : p.extent ≡ seen_as as_extent e.block
  pub some : 1 ≤ seen_as as_operations e.block

abbrev pub AreExports : List Exported → List KernelProc → Type 0
AreExports exports procs = AllZip IsExport exports procs

-- what lies outside a source, where a kernel exports these: the exports, and as many constants as a permutation has
pub record IsOutside (kernel : List KernelProc) (out : Outside) : Type 0 where
  pub count : length out.constants ≡ number_of_constants
  pub exports : AreExports out.exports kernel

abbrev pub names_of : List Exported → List (List ℕ)
names_of kernel = map (λ e. e.name) kernel

abbrev pub names_in : List KernelProc → List (List ℕ)
names_in procs = map (λ p. p.name) procs
