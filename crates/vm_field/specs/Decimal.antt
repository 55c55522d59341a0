-- Canonical decimals: `0`, or digits without a leading zero, of a number below the prime.
use Rattle.std.specs.Prelude.{ℕ, ◌+◌, ◌-◌, ◌*◌, ◌==◌, Bool, true, false, not, if◌then◌else◌, List, [], ◌∷◌, Option, Some, None, option_and_then}
use Rattle.std.specs.Char.{is_ascii_digit}
use Rattle.vm_field.specs.Field.{element_from}

-- the number of decimal digits that stand behind the number n; none where a byte is no digit
unfoldable pub decimal_number : ℕ → List ℕ → Option ℕ
decimal_number n [] = Some n
decimal_number n (c ∷ cs) = if is_ascii_digit c then decimal_number (10 * n + (c - 48)) cs else None

-- at least one byte, and no 0 in front of others
abbrev pub is_without_leading_zero : List ℕ → Bool
is_without_leading_zero [] = false
is_without_leading_zero (c ∷ []) = true
is_without_leading_zero (c ∷ d ∷ cs) = not (c == 48)

-- the element that a text writes, if it is a canonical decimal
unfoldable pub element_of : List ℕ → Option ℕ
element_of text = if is_without_leading_zero text then option_and_then element_from (decimal_number 0 text) else None
