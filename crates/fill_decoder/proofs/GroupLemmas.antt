-- A group that goes on, and the newest block.
use Rattle.std.proofs.Common.{◌≡◌, ◌≢◌, ℕ, zero, suc, ◌+◌, false, List, [], ◌∷◌, refl, slice_get, slice_index, unwrap_or, drop, arith}
use Rattle.complete_rows.specs.Groups.{group_after}

pub goes_on : (number place : ℕ) (positions : List ℕ) → number ≢ 0
    → group_after false number place positions ≡ record { number = number; place = place + 1; positions = positions }
goes_on zero place positions some = absurd (some refl)
goes_on (suc number) place positions some = refl

pub uses_up : (number place : ℕ) (positions : List ℕ) → number ≡ 0
    → group_after false number place positions ≡ record { number = slice_index positions 0; place = 0; positions = drop 1 positions }
uses_up zero place positions none = refl
uses_up (suc number) place positions none = absurd (omega (arith, none))

pub first_number : (xs : List ℕ) → unwrap_or (slice_get xs 0) 0 ≡ slice_index xs 0
first_number [] = refl
first_number (x ∷ xs) = refl
