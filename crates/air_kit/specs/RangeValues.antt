-- The entries of the range table: its values go from 0 to 65535, each behind the one before by 0 or by a power of 3.
use Rattle.std.specs.Prelude.{ℕ, ◌==◌, List, [], ◌∷◌, Option}
use Rattle.vm_field.specs.Signs.{◌⊟◌, ◌⊠◌}
use Rattle.chip_columns.specs.RangeColumns.{v}
use Rattle.air_kit.specs.Places.{Spot}
use Rattle.air_kit.specs.ChipPlaces.{only, paired, in_last}

-- the step is 0 or a power of 3 below 2188
unfoldable pub range_step : List ℕ → List ℕ → ℕ
range_step x y =
    (v y ⊟ v x) ⊠ (v y ⊟ v x ⊟ 1) ⊠ (v y ⊟ v x ⊟ 3) ⊠ (v y ⊟ v x ⊟ 9) ⊠ (v y ⊟ v x ⊟ 27) ⊠ (v y ⊟ v x ⊟ 81)
    ⊠ (v y ⊟ v x ⊟ 243) ⊠ (v y ⊟ v x ⊟ 729) ⊠ (v y ⊟ v x ⊟ 2187)

-- the first value is 0
abbrev pub entry_1 : ℕ → List ℕ → ℕ
entry_1 row x = only (row == 0) (v x)

-- the last one is 65535
abbrev pub entry_2 : List ℕ → Option (List ℕ) → ℕ
entry_2 x next = in_last (v x ⊟ 65535) next

-- each step is one of those
abbrev pub entry_3 : List ℕ → Option (List ℕ) → ℕ
entry_3 x next = paired (λ y. range_step x y) next

unfoldable pub range_values : Spot → List ℕ
range_values p = entry_1 p.row p.cur ∷ entry_2 p.cur p.next ∷ entry_3 p.cur p.next ∷ []
