-- A syscall calls a function of the kernel: the kernel's table has the digests of the statement's list, in order.
use Rattle.sound_buses.proofs.Words.{◌≡◌, ℕ, ◌<◌, true, nat_eq, All, List, [], ◌∷◌, length, slice_index, slice_index_or, refl, sym, subst, ◌∙◌, arith, lit<}
use Rattle.sound_buses.proofs.Words.{over_rows, felt_sub, same_from_sub, IsTable, row_at, kernel_given, front, kernel_asked, Claim, at_number, spot_of}
use Rattle.sound_buses.proofs.Words.{numbers_zero, zero_family, KernelFacts}
use Rattle.std.proofs.lemmas.List.Folds.{list_any_at}
use lib.Pointwise.{bytes_decides, pointwise}
use Rattle.vm_field.specs.Machine.{IsWord}
use Rattle.vm_field.proofs.Elements.{elements-index, word-is}
use Rattle.chip_columns.specs.KernelColumns as kernel
use Rattle.air_kit.specs.KernelValues.{kernel_values}
use Rattle.sound_buses.proofs.RowSums.{in_rows, is_given, row_has}
use Rattle.sound_buses.proofs.TableSums.{IsInTable, table_some}
use Rattle.sound_buses.proofs.Tuples.{single_is}

-- what a table whose entries are 0 shows
module _ (k : Claim) (words : All IsWord k.kernel) (table : List (List ℕ)) (shape : IsTable 5 table)
    (zero : (i number : ℕ) → i < length table → at_number (kernel_values k (spot_of table i)) number ≡ 0) where
  digest_is : (i : ℕ) → i < length table → i < length k.kernel
      → kernel.d (row_at table i) 0 ∷ kernel.d (row_at table i) 1 ∷ kernel.d (row_at table i) 2 ∷ kernel.d (row_at table i) 3 ∷ []
      ≡ slice_index_or k.kernel i []
  unfolding kernel_values
  digest_is i h inside =
      word-is (slice_index_or k.kernel i []) _ _ _ _ word.size (same 0 (lit< tt)) (same 1 (lit< tt)) (same 2 (lit< tt)) (same 3 (lit< tt))
    where
      word : IsWord (slice_index_or k.kernel i [])
      word = words i [] inside

      same : (j : ℕ) → j < 4 → kernel.d (row_at table i) j ≡ slice_index (slice_index_or k.kernel i []) j
      same j few =
          same_from_sub (kernel.d (row_at table i) j) (slice_index (slice_index_or k.kernel i []) j) (shape.below i j)
          (elements-index (slice_index_or k.kernel i []) j word.below)
          (zero_family 4 (λ j. felt_sub (kernel.d (row_at table i) j) (slice_index (slice_index_or k.kernel i []) j))
          (numbers_zero (kernel_values k (spot_of table i)) (λ number. zero i number h)) j few)

  module _ (size : length table ≡ length k.kernel) (rows : List (List ℕ))
      (alike : (u : List ℕ) → in_rows kernel_asked rows u ≡ over_rows (λ i x next. kernel_given x) table u) where
    pub kernel_facts : KernelFacts k.kernel rows
    unfolding kernel_asked kernel_given
    kernel_facts j at =
        let u = front (row_at rows j) in
        let found : (i : ℕ) × IsInTable (λ i x next. kernel_given x) table (front (row_at rows j)) i
        = table_some (is_given alike (row_has [] at.within (rw at.is refl))) in
        let inside : found.0 < length k.kernel = omega (arith, found.1.within, size) in
        list_any_at (pointwise nat_eq u) k.kernel found.0 [] inside
        (subst (λ w. pointwise nat_eq u w ≡ true) (sym (single_is _ u found.1.positive) ∙ digest_is found.0 found.1.within inside)
        ((bytes_decides u u).1 refl))
