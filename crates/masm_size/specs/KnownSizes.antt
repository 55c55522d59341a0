-- What is known of procedures in memory, where only sizes are taken.
use Rattle.std.specs.Prelude.{ℕ, List, map, Option, Some, unwrap_or, option_and_then, bytes_eq, slice_get}
use Rattle.std.specs.List.{find}
use Rattle.std.specs.Option.{option_map}
use Rattle.masm_flat.specs.declared.outside.KernelProc.{KernelProc}
use Rattle.masm_size.specs.declared.known_sizes.Sizes as known
use Rattle.masm_flat.specs.declared.extent.Extent.{Extent}
use Rattle.masm_size.specs.declared.shape.Size as code
use Rattle.masm_names.specs.declared.names.Names.{Names}
use Rattle.masm_names.specs.Names.{place_at}
use Rattle.masm_size.specs.Sizes.{Size, Known_sizes, as_extent, nothing, extent, extent_of, size_view}

-- the size of this number
abbrev pub size_at : List code.Size → Option ℕ → Size
size_at sizes number = unwrap_or (option_map size_view (option_and_then (slice_get sizes) number)) nothing

-- the extent of the kernel's first procedure of that name
abbrev pub extent_at : List KernelProc → List ℕ → Extent
extent_at kernel name = unwrap_or (option_map (λ p. p.extent) (find (λ p. bytes_eq p.name name) kernel)) (extent 1 1)

-- the extent of a dynexec's block by the sizes of the lists of its targets
abbrev pub dispatch_extent : List code.Size → List ℕ → Extent
dispatch_extent sizes targets = as_extent.dyn (map (λ place. extent_of (size_at sizes (Some place))) targets)

-- what is known with these sizes, by the places of names
abbrev pub sizes_known : Names → List code.Size → Extent → List KernelProc → Known_sizes
sizes_known names sizes dispatch kernel =
    record { size = λ name. size_at sizes (place_at names name); exported = extent_at kernel; dispatch = dispatch }

abbrev pub known_sizes_of : known.Sizes → Known_sizes
known_sizes_of s = sizes_known s.names.now s.sizes.now s.dispatch s.outside.now.exports.now
