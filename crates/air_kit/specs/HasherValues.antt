-- The entries of the hasher's table: eight rows a permutation, of which a hash has one or more (docs/CONSTRAINTS.md).
use Rattle.std.specs.Prelude.{ℕ, ◌%◌, Bool, ◌==◌, nat_lt, List, [], ◌∷◌, ◌++◌, Option, slice_index}
use Rattle.vm_field.specs.Field.{felt_pow}
use Rattle.vm_field.specs.Permutation.{before_roots, round_constants}
use Rattle.vm_field.specs.Signs.{◌⊞◌, ◌⊟◌, ◌⊠◌}
use Rattle.chip_columns.specs.HasherColumns.{mode, cont, more, x, state}
use Rattle.air_kit.specs.Places.{Claim, Spot, family}
use Rattle.air_kit.specs.ChipPlaces.{only, paired, in_last}

-- 0 exactly where the element is 0 or 1
abbrev pub bit_value : ℕ → ℕ
bit_value a = a ⊠ (a ⊟ 1)

-- the next row's mode, and the next row's cont, less this row's
abbrev pub mode_change : List ℕ → Option (List ℕ) → ℕ
mode_change row next = paired (λ y. mode y ⊟ mode row) next

abbrev pub cont_change : List ℕ → Option (List ℕ) → ℕ
cont_change row next = paired (λ y. cont y ⊟ cont row) next

-- the next permutation goes on with a hash exactly where this one says so
abbrev pub cont_promise : List ℕ → Option (List ℕ) → ℕ
cont_promise row next = paired (λ y. cont y ⊟ more row) next

-- a hash begins with zeros in the capacity, but for its domain: element j
unfoldable pub begins_at_zero : List ℕ → ℕ → ℕ
begins_at_zero row j = (1 ⊟ mode row) ⊠ (1 ⊟ cont row) ⊠ x row j

-- a hash that goes on keeps element j
abbrev pub capacity_change : List ℕ → Option (List ℕ) → ℕ → ℕ
capacity_change row next j = paired (λ y. more row ⊠ (x y j ⊟ x row j)) next

-- element j's seventh power in the next row, less that element before the round's roots
abbrev pub round_change : List ℕ → List ℕ → Option (List ℕ) → ℕ → ℕ
round_change constants row next j = paired (λ y. felt_pow (x y j) 7 ⊟ slice_index (before_roots constants (state row)) j) next

-- mode, cont and more are bits
abbrev pub entry_1 : List ℕ → ℕ
entry_1 row = bit_value (mode row)

abbrev pub entry_2 : List ℕ → ℕ
entry_2 row = bit_value (cont row)

abbrev pub entry_3 : List ℕ → ℕ
entry_3 row = bit_value (more row)

-- a single permutation is no part of a longer hash
abbrev pub entry_4 : List ℕ → ℕ
entry_4 row = mode row ⊠ (cont row ⊞ more row)

-- the first row goes on with no hash, and behind the last row none goes on
abbrev pub entry_5 : Bool → List ℕ → ℕ
entry_5 first row = only first (cont row)

abbrev pub entry_6 : List ℕ → Option (List ℕ) → ℕ
entry_6 row next = in_last (more row) next

-- inside the eight rows nothing is promised, and the flags stay
abbrev pub entry_7 : Bool → List ℕ → ℕ
entry_7 inside row = only inside (more row)

abbrev pub entry_8 : Bool → List ℕ → Option (List ℕ) → ℕ
entry_8 inside row next = only inside (mode_change row next)

abbrev pub entry_9 : Bool → List ℕ → Option (List ℕ) → ℕ
entry_9 inside row next = only inside (cont_change row next)

-- at their end the promise is kept
abbrev pub entry_10 : Bool → List ℕ → Option (List ℕ) → ℕ
entry_10 ends row next = only ends (cont_promise row next)

-- at their beginning the capacity is that of a new hash
abbrev pub entry_11 : Bool → List ℕ → ℕ
entry_11 begins row = only begins (begins_at_zero row 0)

abbrev pub entry_12 : Bool → List ℕ → ℕ
entry_12 begins row = only begins (begins_at_zero row 2)

abbrev pub entry_13 : Bool → List ℕ → ℕ
entry_13 begins row = only begins (begins_at_zero row 3)

-- 14 + j: at their end a hash that goes on keeps its capacity
abbrev pub entry_14 : ℕ → Bool → List ℕ → Option (List ℕ) → ℕ
entry_14 j ends row next = only ends (capacity_change row next j)

-- 18 + j: inside them each row is the round behind the one before
abbrev pub entry_18 : ℕ → Bool → List ℕ → List ℕ → Option (List ℕ) → ℕ
entry_18 j inside constants row next = only inside (round_change constants row next j)

-- 1 to 13: flags and where they may change, by where the row stands: first of the table, first, inside or last of its eight
unfoldable pub hasher_flag_values : Bool → Bool → Bool → Bool → List ℕ → Option (List ℕ) → List ℕ
hasher_flag_values first begins inside ends row next =
    entry_1 row ∷ entry_2 row ∷ entry_3 row ∷ entry_4 row ∷ entry_5 first row ∷ entry_6 row next ∷ entry_7 inside row
    ∷ entry_8 inside row next ∷ entry_9 inside row next ∷ entry_10 ends row next ∷ entry_11 begins row ∷ entry_12 begins row
    ∷ entry_13 begins row ∷ []

-- 14 to 17
unfoldable pub chain_values : Bool → List ℕ → Option (List ℕ) → List ℕ
chain_values ends row next = family 4 (λ j. entry_14 j ends row next)

-- 18 to 29
unfoldable pub round_values : Bool → List ℕ → List ℕ → Option (List ℕ) → List ℕ
round_values inside constants row next = family 12 (λ j. entry_18 j inside constants row next)

-- all, by where the row stands
unfoldable pub hasher_values_by : Bool → Bool → Bool → Bool → List ℕ → List ℕ → Option (List ℕ) → List ℕ
hasher_values_by first begins inside ends constants row next =
    hasher_flag_values first begins inside ends row next
    ++ (chain_values ends row next ++ round_values inside constants row next)

-- all, of a row of this number
unfoldable pub hasher_values : Claim → Spot → List ℕ
hasher_values c p =
    hasher_values_by (p.row == 0) (p.row % 8 == 0) (nat_lt (p.row % 8) 7) (p.row % 8 == 7)
    (round_constants c.constants (p.row % 8)) p.cur p.next
