-- Numbers in a source: 1 to 20 decimal digits, or 0x and 1 to 16 hexadecimal digits of either case.
use Rattle.std.specs.Prelude.{ℕ, ◌+◌, ◌-◌, ◌*◌, Bool, ◌==◌, ◌&&◌, ◌||◌, nat_lt, nat_le, if◌then◌else◌, List, [], ◌∷◌, length, drop, slice_index, Option, Some, None, option_and_then}

-- the value of a hexadecimal digit; 16 for another byte
abbrev pub digit_value : ℕ → ℕ
digit_value b =
    if nat_le 48 b && nat_le b 57 then b - 48
    else (if nat_le 97 b && nat_le b 102 then b - 87
    else (if nat_le 65 b && nat_le b 70 then b - 55 else 16))

-- a digit in the base
abbrev pub digit_of : ℕ → ℕ → Option ℕ
digit_of base b = if nat_lt (digit_value b) base then Some (digit_value b) else None

-- the value of digits, behind digits of the value v
abbrev pub value_from : ℕ → ℕ → List ℕ → Option ℕ
value_from base v [] = Some v
value_from base v (b ∷ bs) = option_and_then (λ d. value_from base (v * base + d) bs) (digit_of base b)

-- the value of at least one and at most so many digits
abbrev pub value_within : ℕ → ℕ → List ℕ → Option ℕ
value_within base most digits =
    if length digits == 0 || nat_lt most (length digits) then None else value_from base 0 digits

-- whether the text begins with 0x
abbrev pub is_hexadecimal : List ℕ → Bool
is_hexadecimal text = nat_le 2 (length text) && (slice_index text 0 == 48) && (slice_index text 1 == 120)

-- the number that the text spells
unfoldable pub number : List ℕ → Option ℕ
number text = if is_hexadecimal text then value_within 16 16 (drop 2 text) else value_within 10 20 text
