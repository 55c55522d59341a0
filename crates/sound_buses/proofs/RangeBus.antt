-- Limbs have 16 bits, and so has the number of blocks that may still be nested in one that starts.
use Rattle.sound_buses.proofs.Words.{◌≡◌, ℕ, zero, suc, ◌+◌, ◌^◌, ◌<◌, ◌≤◌, inl, inr, false, List, [], ◌∷◌, length, slice_index, refl, ap, subst, arith}
use Rattle.sound_buses.proofs.Words.{counted, once, over_rows, felt_sub, is_start_op, Op, lv, t, range_given, limbs_from, count_of_limbs, range_asked, row_at}
use Rattle.sound_buses.proofs.Words.{op_in, RangeFacts}
use Rattle.std.proofs.lemmas.Bool.{cases_lt}
use Rattle.sound_buses.proofs.Words.ops
use Rattle.chip_columns.specs.RangeColumns as range
use Rattle.sound_buses.proofs.RowSums.{IsInRow, in_rows, row_has, row_in, rows_have}
use Rattle.sound_buses.proofs.TableSums.{IsInTable, table_some}
use Rattle.sound_buses.proofs.Tuples.{counts_behind, counts_first, single_is}

-- a block's start has no limbs
limbs_apart : (op : Op) (j : ℕ) → j < count_of_limbs op → is_start_op op ≡ false
limbs_apart ops.U32Split j h = refl
limbs_apart ops.U32Assert2 j h = refl
limbs_apart ops.U32Sub j h = refl
limbs_apart ops.U32Add j h = refl
limbs_apart ops.U32Mul j h = refl
limbs_apart ops.U32Add3 j h = refl
limbs_apart ops.U32MAdd j h = refl
limbs_apart ops.U32Div j h = refl
limbs_apart op j h = absurd (omega arith)

-- each limb is among them
limb_in : (x : List ℕ) (q n j : ℕ) → q ≤ j → j < q + n → 0 < counted (limbs_from x q n) (t x j ∷ [])
unfolding limbs_from
limb_in x q zero j behind within = absurd (omega arith)
limb_in x q (suc n) j behind within = elim (cases_lt q j) [
  | inl later ↦ counts_behind _ _ _ (limb_in x (suc q) n j later (omega arith))
  | inr here ↦ let e : q ≡ j = omega arith in
      subst (λ i. 0 < counted (once (t x q ∷ []) ∷ limbs_from x (suc q) n) (t x i ∷ [])) e (counts_first (t x q ∷ []) (limbs_from x (suc q) n))
]

-- what the table gives has 16 bits
module _ (table : List (List ℕ)) (short : (i : ℕ) → i < length table → range.v (row_at table i) < 2 ^ 16) where
  pub given_short : (n : ℕ) → 0 < over_rows (λ i x next. range_given x) table (n ∷ []) → n < 2 ^ 16
  unfolding range_given
  given_short n some =
      let found : (k : ℕ) × IsInTable (λ i x next. range_given x) table (n ∷ []) k = table_some some in
      subst (λ m. m < 2 ^ 16) (ap (λ xs. slice_index xs 0) (single_is _ (n ∷ []) found.1.positive)) (short found.0 found.1.within)

  module _ (rows : List (List ℕ)) (alike : (u : List ℕ) → in_rows range_asked rows u ≤ over_rows (λ i x next. range_given x) table u) where
    asked_short : {i : ℕ} (n : ℕ) → IsInRow range_asked rows (n ∷ []) i → n < 2 ^ 16
    asked_short n at = given_short n (omega (arith, rows_have at, alike (n ∷ [])))

    pub range_facts : RangeFacts rows
    unfolding range_asked
    range_facts = record {
      limb = λ i j within few. asked_short (t (row_at rows i) j) (row_in (limbs_from (row_at rows i) 0 (count_of_limbs (op_in rows i))) within
          (rw (limbs_apart (op_in rows i) j few) refl) (limb_in (row_at rows i) 0 (count_of_limbs (op_in rows i)) j (omega arith) (omega arith)));
      nesting = λ j at. asked_short (felt_sub 1024 (lv (row_at rows (suc j)))) (row_has [] at.within (rw at.is refl));
    }
