-- The list of a procedure with locals.
use Rattle.masm_flat.proofs.Words.{◌≡◌, ℕ, zero, suc, ◌<◌, ◌-◌, List, [], ◌∷◌, ◌++◌, refl, arith, prime, FmpUpdate, plain_item, lit, Operation, with_locals}
use Rattle.masm_flat.specs.Blocks.{Piece}

pub with_none : {A : Type 0} (n : ℕ) (pieces : List (Piece A)) → n ≡ 0 → with_locals n pieces ≡ pieces
with_none zero pieces h = refl
with_none (suc n) pieces h = absurd (omega arith)

pub with_some : {A : Type 0} (n : ℕ) (pieces : List (Piece A)) → 0 < n
    → with_locals n pieces
    ≡ Operation (lit n) ∷ Operation (plain_item FmpUpdate) ∷ (pieces ++ Operation (lit (prime - n)) ∷ Operation (plain_item FmpUpdate) ∷ [])
with_some zero pieces h = absurd (omega arith)
with_some (suc n) pieces h = refl
