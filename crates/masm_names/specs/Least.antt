-- The order of refusals, and the least of those that stand.
use Rattle.std.specs.Prelude.{◌≡◌, ◌<◌, ◌≤◌, Option, Some, None, ◌⊎◌}
use Rattle.masm_tree.specs.declared.tree.Position.{Position}
use Rattle.masm_names.specs.declared.refusal.LinkCause.{LinkCause}
use Rattle.masm_names.specs.declared.refusal.Refusal.{Refusal}
use Rattle.masm_names.specs.Causes.{order}

-- one place stands before another
abbrev pub ComesBefore : Position → Position → Type 0
ComesBefore a b = (a.line < b.line) ⊎ ((a.line ≡ b.line) × (a.column < b.column))

-- Of places that are refused, the first, and there the first cause.
pub record IsLeast (Refused : Position → LinkCause → Type 0) (at : Position) (cause : LinkCause) : Type 0 where
  pub stands : Refused at cause
  pub first : (other : Position) (why : LinkCause) → Refused other why → ComesBefore at other ⊎ ((at ≡ other) × (order cause ≤ order why))

-- the least refusal, or none where nothing is refused
abbrev pub FindsLeast : (Position → LinkCause → Type 0) → Option Refusal → Type 0
FindsLeast Refused None = (at : Position) (cause : LinkCause) → ¬ (Refused at cause)
FindsLeast Refused (Some r) = IsLeast Refused r.at r.cause
