-- The limits of a tree: 524,288 operations, and 1,024 blocks on a path.
use Rattle.std.specs.Prelude.{◌≡◌, nat_lt, if◌then◌else◌, Option, Some, None}
use Rattle.vm_field.specs.Limits.{most_nesting, most_operations}
use Rattle.masm_tree.specs.declared.tree.Position.{Position}
use Rattle.masm_names.specs.declared.refusal.LinkCause.{LinkCause}
use Rattle.masm_names.specs.declared.refusal.LinkCause.TheVariants as causes
use Rattle.masm_flat.specs.declared.extent.Extent.{Extent}

-- the first cause for which a tree of this extent is refused
abbrev pub size_cause : Extent → Option LinkCause
size_cause e =
    if nat_lt most_operations e.operations then Some causes.TooManyOps
    else (if nat_lt most_nesting e.height then Some causes.TooDeep else None)

-- the procedure at this place is refused for the extent of its tree
abbrev pub ExceedsLimit : Position → Extent → Position → LinkCause → Type 0
ExceedsLimit place e at cause = (at ≡ place) × (size_cause e ≡ Some cause)
