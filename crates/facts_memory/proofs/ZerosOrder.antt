-- A table whose entries are 0 is ordered, and has the rows of its accesses.
use Rattle.facts_memory.proofs.Words.{◌≡◌, ℕ, zero, suc, ◌+◌, ◌*◌, ◌/◌, ◌%◌, ◌<◌, List, [], ◌∷◌, length, Some, refl, sym, ap, subst, ◌∙◌, arith}
use Rattle.facts_memory.proofs.Words.{slice_get, slice_get-get_or, at_number, memory_values, spot_of, word-of, felt_add, felt_mul, IsWord, Keeps}
use Rattle.facts_memory.proofs.Words.{row_behind, step_behind, word_behind, row_at, AreOrdered, AreSmall, HaveLimbs}
use Rattle.facts_memory.proofs.Words.{MemoryIsZero, access_at, access_before}
use Rattle.chip_columns.specs.MemoryColumns.{kind, ctx, addr, clk, v, n0, n1, d0, d1, a0, a1}
use Rattle.facts_memory.specs.TableRows.{AreAccessRows, first_row}
use Rattle.facts_memory.proofs.Cells.{AllZero}
use Rattle.facts_memory.proofs.RowOrder.{key_grows, steps_are, word_is}
use Rattle.facts_memory.proofs.RowZeros.{FirstSays, NextSays, RowSays, first_says, next_says, row_says}

-- ---- a row's cells

row_is : (x : List ℕ) → length x ≡ 14
    → x ≡ kind x ∷ ctx x ∷ addr x ∷ clk x ∷ v x 0 ∷ v x 1 ∷ v x 2 ∷ v x 3 ∷ n0 x ∷ n1 x ∷ d0 x ∷ d1 x ∷ a0 x ∷ a1 x ∷ []
row_is (k ∷ c ∷ a ∷ t ∷ p ∷ q ∷ r ∷ s ∷ n ∷ m ∷ l ∷ h ∷ g ∷ j ∷ []) e = refl
row_is _ e = absurd (omega arith)

row_as : (x : List ℕ) (n m l h g j : ℕ) → length x ≡ 14 → n0 x ≡ n → n1 x ≡ m → d0 x ≡ l → d1 x ≡ h → a0 x ≡ g → a1 x ≡ j
    → x ≡ kind x ∷ ctx x ∷ addr x ∷ clk x ∷ v x 0 ∷ v x 1 ∷ v x 2 ∷ v x 3 ∷ n ∷ m ∷ l ∷ h ∷ g ∷ j ∷ []
row_as x n m l h g j e en em el eh eg ej = let whole = row_is x e in cc

-- a number by its limbs
limbs_are : (a low high : ℕ) → low < 65536 → a ≡ low + 65536 * high → (low ≡ a % 65536) × (high ≡ a / 65536)
limbs_are a low high h e = (omega arith, omega arith)

joined : (low high : ℕ) → low < 65536 → high < 65536 → felt_add low (felt_mul 65536 high) ≡ low + 65536 * high
joined low high l h = omega arith

none_else : (n m : ℕ) → n ≡ 1 → m < 2 → felt_mul n m ≡ 0 → m ≡ 0
none_else n m e h z = let z1 = ap (λ k. felt_mul k m) (sym e) ∙ z in omega (arith, z1, h)

numbers_zero : (values : List ℕ) → ((number : ℕ) → at_number values number ≡ 0) → AllZero values
unfolding at_number
numbers_zero values zeros n = zeros (suc n)

-- ---- the rows

module _ (rows : List (List ℕ)) (z : MemoryIsZero rows) (limbs : HaveLimbs rows) where
  spot_zero : (i : ℕ) → i < length rows → AllZero (memory_values (spot_of rows i))
  spot_zero i h = numbers_zero (memory_values (spot_of rows i)) (λ number. z.zero i number h)

  says : (i : ℕ) → i < length rows → RowSays (row_at rows i)
  says i h = row_says i (row_at rows i) (slice_get rows (suc i)) (z.table.below i) (limbs i h) (spot_zero i h)

  says_first : 0 < length rows → FirstSays (row_at rows 0)
  says_first h = first_says (row_at rows 0) (slice_get rows 1) (z.table.below 0) (says 0 h).n0_bit (spot_zero 0 h)

  word_at_row : (i : ℕ) → IsWord (access_at rows i).word
  word_at_row i = word-of _ _ _ _ (z.table.below i 4) (z.table.below i 5) (z.table.below i 6) (z.table.below i 7)

  first_is : 0 < length rows → row_at rows 0 ≡ first_row (access_at rows 0) (d0 (row_at rows 0)) (d1 (row_at rows 0))
  unfolding first_row
  first_is h =
      let s = says 0 h in
      let f = says_first h in
      let e = limbs_are (addr (row_at rows 0)) (a0 (row_at rows 0)) (a1 (row_at rows 0)) (limbs 0 h).a0_small s.address_is in
      row_as (row_at rows 0) _ _ _ _ _ _ (z.table.wide 0 h) f.is_new (none_else (n0 (row_at rows 0)) (n1 (row_at rows 0)) f.is_new s.n1_bit s.one_new)
      refl refl e.0 e.1

  module _ (small : AreSmall rows) where
    says_next : (i : ℕ) → suc i < length rows → NextSays (row_at rows i) (row_at rows (suc i))
    says_next i h =
        next_says i (row_at rows i) (row_at rows (suc i)) (z.table.below (suc i)) (limbs (suc i) h) (says i before)
        (says (suc i) h) (small.contexts i before) (small.clocks i before)
        (subst (λ next. AllZero (memory_values (record { row = i; cur = row_at rows i; next = next })))
        (slice_get-get_or rows (suc i) [] h) (spot_zero i before))
      where
        before : i < length rows
        before = omega (arith, h)

    later_is : (i : ℕ) → suc i < length rows → row_at rows (suc i) ≡ row_behind (Some (access_at rows i)) (access_at rows (suc i))
    unfolding row_behind
    later_is i h =
        let y = row_at rows (suc i) in
        let l = limbs (suc i) h in
        let f = steps_are (access_at rows i) (access_at rows (suc i)) (says_next i h).order in
        let s = limbs_are (step_behind (Some (access_at rows i)) (access_at rows (suc i))) (d0 y) (d1 y) l.d0_small
        (sym f.2 ∙ joined (d0 y) (d1 y) l.d0_small l.d1_small) in
        let e = limbs_are (addr y) (a0 y) (a1 y) l.a0_small (says (suc i) h).address_is in
        row_as y _ _ _ _ _ _ (z.table.wide (suc i) h) f.0 f.1 s.0 s.1 e.0 e.1

    keeps : (i : ℕ) → i < length rows → Keeps (access_at rows i) (word_behind (access_before rows i) (access_at rows i))
    keeps zero h = (says_first h).keeps
    keeps (suc i) h =
        let next = says_next i h in
        subst (Keeps (access_at rows (suc i))) (word_is (access_at rows i) (access_at rows (suc i)) (word_at_row i) next.order) next.keeps

pub zeros_are_ordered : (rows : List (List ℕ)) → MemoryIsZero rows → HaveLimbs rows → AreSmall rows → AreOrdered rows
zeros_are_ordered rows z limbs small = record {
  kinds = λ i h. (says rows z limbs i h).kind_small;
  addresses = λ i h. (says rows z limbs i h).address;
  grows = λ i h.
      (let before : i < length rows = omega (arith, h) in
      key_grows (access_at rows i) (access_at rows (suc i)) (says_next rows z limbs small i h).order (says rows z limbs i before).address
      (small.clocks i before));
  keeps = keeps rows z limbs small;
}

pub zeros_are_rows : (rows : List (List ℕ)) → MemoryIsZero rows → HaveLimbs rows → AreSmall rows → AreAccessRows rows
zeros_are_rows rows z limbs small = record { first = first_is rows z limbs; later = later_is rows z limbs small }
