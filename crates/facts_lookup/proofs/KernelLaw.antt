-- The kernel table's entries are 0 exactly where its rows are the digests.
use Rattle.std.proofs.Common.{◌≡◌, ℕ, zero, suc, ◌<◌, List, [], slice_index, slice_index_or, refl, sym, subst, arith}
use Rattle.vm_field.specs.Field.{prime, felt_sub}
use Rattle.vm_field.proofs.Algebra.{felt_sub-same, same_from_sub}
use Rattle.vm_table.specs.Layout.{IsTable}
use Rattle.chip_columns.specs.KernelColumns.{d}
use Rattle.air_kit.specs.KernelValues.{kernel_values}
use Rattle.air_kit.specs.Places.{Claim, at_number, family}
use Rattle.air_kit.specs.Traces.{spot_of}
use Rattle.facts_main.proofs.Zeros.{numbers_zero, zero_family}
use Rattle.facts_lookup.specs.KernelTables.{AreBelow, HasDigests, KernelIsZero}

-- what element j of row i lacks to that of the digest
abbrev lack : Claim → List (List ℕ) → ℕ → ℕ → ℕ
lack c rows i j = felt_sub (d (slice_index_or rows i []) j) (slice_index (slice_index_or c.kernel i []) j)

pub shows : (c : Claim) (rows : List (List ℕ)) → IsTable 5 rows → AreBelow c.kernel → KernelIsZero c rows → HasDigests c rows
unfolding kernel_values
shows c rows shape below zeros i j h few =
    same_from_sub (d (slice_index_or rows i []) j) (slice_index (slice_index_or c.kernel i []) j) (shape.below i j) (below i j)
    (zero_family 4 (lack c rows i) (numbers_zero (kernel_values c (spot_of rows i)) (λ number. zeros i number h)) j few)

family_at : (n : ℕ) (value : ℕ → ℕ) (m : ℕ) → ((j : ℕ) → j < n → value j ≡ 0) → slice_index (family n value) m ≡ 0
unfolding family
family_at zero value m none = refl
family_at (suc n) value zero none = none 0 (omega arith)
family_at (suc n) value (suc m) none = family_at n (λ j. value (suc j)) m (λ j h. none (suc j) (omega (arith, h)))

family_zero : (n : ℕ) (value : ℕ → ℕ) (number : ℕ) → ((j : ℕ) → j < n → value j ≡ 0) → at_number (family n value) number ≡ 0
unfolding at_number
family_zero n value zero none = refl
family_zero n value (suc m) none = family_at n value m none

pub zeros_of : (c : Claim) (rows : List (List ℕ)) → AreBelow c.kernel → HasDigests c rows → KernelIsZero c rows
unfolding kernel_values
zeros_of c rows below has i number h =
    family_zero 4 (lack c rows i) number
    (λ j few. felt_sub-same (d (slice_index_or rows i []) j) (slice_index (slice_index_or c.kernel i []) j)
    (subst (λ n. n < prime) (sym (has i j h few)) (below i j)) (has i j h few))
