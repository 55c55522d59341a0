-- Exports above 255, by their places.
use Rattle.std.specs.Prelude.{◌≡◌, ℕ, true, List, length, take}
use Rattle.std.specs.List.{filter}
use Rattle.vm_field.specs.Limits.{most_kernel}
use Rattle.masm_tree.specs.declared.tree.Position.{Position}
use Rattle.masm_tree.specs.declared.tree.Proc.{Proc}
use Rattle.masm_names.specs.declared.refusal.LinkCause.{LinkCause}
use Rattle.masm_names.specs.declared.refusal.LinkCause.TheVariants as causes
use Rattle.masm_names.specs.Among.{Among}

-- how many of these procedures are exported
abbrev pub exports_in : List Proc → ℕ
exports_in procs = length (filter (λ p. p.exported) procs)

-- a procedure is refused that is exported behind so many
abbrev pub IsExtra : ℕ → Proc → Position → LinkCause → Type 0
IsExtra exports p at cause =
    (p.exported ≡ true) × (exports ≡ most_kernel) × (at ≡ record { line = p.line; column = p.column }) × (cause ≡ causes.TooManyExports)

-- the procedures of a list that are refused
abbrev pub Extras : List Proc → Position → LinkCause → Type 0
Extras procs = Among (λ place p. IsExtra (exports_in (take place procs)) p) procs
