-- What a row of a bitwise operation gives, by its place of the eight.
use Rattle.std.proofs.Common.{◌≡◌, ◌≢◌, ℕ, ◌%◌, List, [], ◌∷◌, refl, ap}
use Rattle.std.proofs.lemmas.Bool.{ne_eqb}
use Rattle.air_kit.specs.ChipTuples.{bitwise_given}
use Rattle.buses.specs.Counts.{once}
use Rattle.chip_columns.specs.BitwiseColumns.{op, a, b, z}

pub gives_last : (i : ℕ) (row t : List ℕ) → i % 8 ≡ 7 → t ≡ op row ∷ a row ∷ b row ∷ z row ∷ [] → once t ∷ [] ≡ bitwise_given i row
unfolding bitwise_given
gives_last i row t last tuple = rw last (ap (λ k. once k ∷ []) tuple)

pub gives_none : (i : ℕ) (row : List ℕ) → i % 8 ≢ 7 → [] ≡ bitwise_given i row
unfolding bitwise_given
gives_none i row apart = rw (ne_eqb (i % 8) 7 apart) refl

pub four_cells : (c d e f : ℕ) (row : List ℕ) → c ≡ op row → d ≡ a row → e ≡ b row → f ≡ z row
    → ◌≡◌ {A = List ℕ} (c ∷ d ∷ e ∷ f ∷ []) (op row ∷ a row ∷ b row ∷ z row ∷ [])
four_cells c d e f row p q r s = cc
