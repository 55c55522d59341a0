-- The entries of the bitwise table: eight rows an operation on 32 bits, four bits a row, the highest first.
use Rattle.std.specs.Prelude.{ℕ, ◌%◌, Bool, ◌==◌, nat_lt, List, [], ◌∷◌, Option}
use Rattle.vm_field.specs.Signs.{◌⊞◌, ◌⊟◌, ◌⊠◌}
use Rattle.chip_columns.specs.BitwiseColumns.{op, a, b, a0, a1, a2, a3, b0, b1, b2, b3, z}
use Rattle.air_kit.specs.Places.{Spot}
use Rattle.air_kit.specs.ChipPlaces.{only, paired}
use Rattle.air_kit.specs.HasherValues.{bit_value}

-- the four bits of the operands
unfoldable pub nibble_a : List ℕ → ℕ
nibble_a row = a0 row ⊞ 2 ⊠ a1 row ⊞ 4 ⊠ a2 row ⊞ 8 ⊠ a3 row

unfoldable pub nibble_b : List ℕ → ℕ
nibble_b row = b0 row ⊞ 2 ⊠ b1 row ⊞ 4 ⊠ b2 row ⊞ 8 ⊠ b3 row

-- the result of two bits: their product, or the exclusive or
unfoldable pub bit_result : ℕ → ℕ → ℕ → ℕ
bit_result kind p q = p ⊠ q ⊞ kind ⊠ (p ⊞ q ⊟ 3 ⊠ (p ⊠ q))

-- the four bits of the result
unfoldable pub nibble_z : List ℕ → ℕ
nibble_z row =
    bit_result (op row) (a0 row) (b0 row) ⊞ 2 ⊠ bit_result (op row) (a1 row) (b1 row)
    ⊞ 4 ⊠ bit_result (op row) (a2 row) (b2 row) ⊞ 8 ⊠ bit_result (op row) (a3 row) (b3 row)

-- the kind is a bit
abbrev pub entry_1 : List ℕ → ℕ
entry_1 row = bit_value (op row)

-- so are the bits of the first operand, the lowest first
abbrev pub entry_2 : List ℕ → ℕ
entry_2 row = bit_value (a0 row)

abbrev pub entry_3 : List ℕ → ℕ
entry_3 row = bit_value (a1 row)

abbrev pub entry_4 : List ℕ → ℕ
entry_4 row = bit_value (a2 row)

abbrev pub entry_5 : List ℕ → ℕ
entry_5 row = bit_value (a3 row)

-- and those of the second one
abbrev pub entry_6 : List ℕ → ℕ
entry_6 row = bit_value (b0 row)

abbrev pub entry_7 : List ℕ → ℕ
entry_7 row = bit_value (b1 row)

abbrev pub entry_8 : List ℕ → ℕ
entry_8 row = bit_value (b2 row)

abbrev pub entry_9 : List ℕ → ℕ
entry_9 row = bit_value (b3 row)

-- the first of eight rows has its own four bits
abbrev pub entry_10 : Bool → List ℕ → ℕ
entry_10 begins row = only begins (a row ⊟ nibble_a row)

abbrev pub entry_11 : Bool → List ℕ → ℕ
entry_11 begins row = only begins (b row ⊟ nibble_b row)

abbrev pub entry_12 : Bool → List ℕ → ℕ
entry_12 begins row = only begins (z row ⊟ nibble_z row)

-- inside them the kind stays
abbrev pub entry_13 : Bool → List ℕ → Option (List ℕ) → ℕ
entry_13 inside row next = only inside (paired (λ y. op y ⊟ op row) next)

-- and each further row has sixteen times the numbers before and its own four bits
abbrev pub entry_14 : Bool → List ℕ → Option (List ℕ) → ℕ
entry_14 inside row next = only inside (paired (λ y. a y ⊟ 16 ⊠ a row ⊟ nibble_a y) next)

abbrev pub entry_15 : Bool → List ℕ → Option (List ℕ) → ℕ
entry_15 inside row next = only inside (paired (λ y. b y ⊟ 16 ⊠ b row ⊟ nibble_b y) next)

abbrev pub entry_16 : Bool → List ℕ → Option (List ℕ) → ℕ
entry_16 inside row next = only inside (paired (λ y. z y ⊟ 16 ⊠ z row ⊟ nibble_z y) next)

-- all, by where the row stands: first of its eight, or with another one behind it
unfoldable pub bitwise_values_by : Bool → Bool → List ℕ → Option (List ℕ) → List ℕ
bitwise_values_by begins inside row next =
    entry_1 row ∷ entry_2 row ∷ entry_3 row ∷ entry_4 row ∷ entry_5 row ∷ entry_6 row ∷ entry_7 row ∷ entry_8 row ∷ entry_9 row
    ∷ entry_10 begins row ∷ entry_11 begins row ∷ entry_12 begins row ∷ entry_13 inside row next ∷ entry_14 inside row next
    ∷ entry_15 inside row next ∷ entry_16 inside row next ∷ []

unfoldable pub bitwise_values : Spot → List ℕ
bitwise_values p = bitwise_values_by (p.row % 8 == 0) (nat_lt (p.row % 8) 7) p.cur p.next
