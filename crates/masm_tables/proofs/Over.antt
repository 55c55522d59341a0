-- Whether a tree is too large is told by its place and its extent.
use Rattle.masm_tables.proofs.Words.{◌≡◌, Option, subst, Position, FindsLeast, Extent, ExceedsLimit}
use Rattle.masm_names.specs.declared.refusal.Refusal.{Refusal}

pub over_same : (a b : Position) (e f : Extent) (r : Option Refusal) → a ≡ b → e ≡ f → FindsLeast (ExceedsLimit a e) r → FindsLeast (ExceedsLimit b f) r
over_same a b e f r is_at is_extent h = subst (λ x. FindsLeast (ExceedsLimit x f) r) is_at (subst (λ x. FindsLeast (ExceedsLimit a x) r) is_extent h)
