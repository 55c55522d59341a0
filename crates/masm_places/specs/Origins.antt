-- Where procedures stand.
use Rattle.std.specs.Prelude.{ℕ, nat_lt, if◌then◌else◌, List, [], Option, unwrap_or}
use Rattle.std.specs.Borrow.{Bor}
use Rattle.std.specs.Option.{option_map}
use Rattle.masm_tree.specs.declared.tree.Ast.{Ast}
use Rattle.masm_tree.specs.Trees.{Procedure}
use Rattle.masm_tree.specs.Views.{source_of}
use Rattle.masm_places.specs.declared.origin.Origin.{Origin}
use Rattle.masm_places.specs.declared.origin.Origin.TheVariants as origins

-- of a procedure of the program by its place
abbrev pub origin_at : ℕ → ℕ → Origin
origin_at own place = if nat_lt place own then origins.Program else origins.Library

-- a kernel's procedures, none where there is no kernel
abbrev pub kernel_procedures : Option (Bor Ast) → List Procedure
kernel_procedures kernel = unwrap_or (option_map (λ ast. (source_of ast.now).procs) kernel) []
