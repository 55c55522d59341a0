-- The rows of accesses in order have entries 0.
use Rattle.facts_memory.proofs.Words.{◌≡◌, ℕ, zero, suc, ◌<◌, inl, inr, List, [], length, slice_get, Option, Some, None, option_map, refl, sym, ap}
use Rattle.facts_memory.proofs.Words.{subst, ◌∙◌, arith, cases_lt, slice_get-get_or, slice_get_past, word-of, IsTable, row_at, family, access_values, entry_1}
use Rattle.facts_memory.proofs.Words.{entry_5, goes_on_here, memory_values, order_step, step_of, word_values, spot_of, Access, row_behind, AreOrdered}
use Rattle.facts_memory.proofs.Words.{AreSmall, MemoryIsZero, access_at, access_before}
use Rattle.chip_columns.specs.MemoryColumns.{d0, d1}
use Rattle.facts_memory.specs.TableRows.{AreAccessRows, first_row}
use Rattle.facts_memory.proofs.BehindZero.{NextFits, row_zero}
use Rattle.facts_memory.proofs.Cells.{AllZero}
use Rattle.facts_memory.proofs.Fitting.{FitsBehind, IsShown}
use Rattle.facts_memory.proofs.RowOrder.{Follows}
use Rattle.facts_memory.proofs.RowsZero.{zero_number}
use Rattle.facts_memory.proofs.SortedKeys.{follows_from}

-- no entry speaks of the first row's step
first_values : (a : Access) (low high : ℕ) (next : Option (List ℕ))
    → memory_values (record { row = 0; cur = first_row a low high; next = next })
    ≡ memory_values (record { row = 0; cur = row_behind None a; next = next })
unfolding memory_values access_values word_values entry_1 entry_5 order_step step_of goes_on_here family row_behind first_row
first_values a low high next = refl

module _ (rows : List (List ℕ)) (table : IsTable 14 rows) (small : AreSmall rows) (o : AreOrdered rows) (are : AreAccessRows rows) where
  shown : (i : ℕ) → i < length rows → IsShown (access_at rows i)
  shown i h = record {
    kind = o.kinds i h;
    limits = record { ctx_small = small.contexts i h; addr_small = o.addresses i h; clk_small = small.clocks i h };
    word = word-of _ _ _ _ (table.below i 4) (table.below i 5) (table.below i 6) (table.below i 7);
  }

  fits : (i : ℕ) → i < length rows → FitsBehind (access_before rows i) (access_at rows i)
  fits zero h = record { shown = shown 0 h; order = λ b e. absurd (let clash : ⊥ = cc in clash); keeps = o.keeps 0 h }
  fits (suc i) h = record {
    shown = shown (suc i) h;
    order = λ b e. subst (λ x. Follows x (access_at rows (suc i))) (let same : access_at rows i ≡ b = cc in same)
        (follows_from (access_at rows i) (access_at rows (suc i)) (shown i (omega (arith, h))) (shown (suc i) h) (o.grows i h));
    keeps = o.keeps (suc i) h;
  }

  -- the row behind, if there is one
  next_of : (i : ℕ) → (n : Option Access)
      × (slice_get rows (suc i) ≡ option_map (λ b. row_behind (Some (access_at rows i)) b) n) × NextFits (access_at rows i) n
  next_of i = elim (cases_lt (suc i) (length rows)) [
    | inl h ↦ (Some (access_at rows (suc i)), slice_get-get_or rows (suc i) [] h ∙ ap Some (are.later i h), fits (suc i) h)
    | inr past ↦ (None, slice_get_past rows (suc i) past, tt)
  ]

  behind_zeros : (i : ℕ) (before : Option Access) → FitsBehind before (access_at rows i) → (i ≡ 0 → before ≡ None)
      → AllZero (memory_values (record { row = i; cur = row_behind before (access_at rows i); next = slice_get rows (suc i) }))
  behind_zeros i before f first =
      let n = next_of i in
      subst (λ m. AllZero (memory_values (record { row = i; cur = row_behind before (access_at rows i); next = m }))) (sym n.1)
      (row_zero i before (access_at rows i) n.0 f first n.2)

  spot_zeros : (i : ℕ) → i < length rows → AllZero (memory_values (spot_of rows i))
  spot_zeros zero h =
      subst (λ x. AllZero (memory_values (record { row = 0; cur = x; next = slice_get rows 1 }))) (sym (are.first h))
      (subst AllZero (sym (first_values (access_at rows 0) (d0 (row_at rows 0)) (d1 (row_at rows 0)) (slice_get rows 1)))
      (behind_zeros 0 None (fits 0 h) (λ e. refl)))
  spot_zeros (suc i) h =
      subst (λ x. AllZero (memory_values (record { row = suc i; cur = x; next = slice_get rows (suc (suc i)) }))) (sym (are.later i h))
      (behind_zeros (suc i) (Some (access_at rows i)) (fits (suc i) h) (λ e. absurd (omega (arith, e))))

pub rows_are_zero : (rows : List (List ℕ)) → IsTable 14 rows → AreSmall rows → AreOrdered rows → AreAccessRows rows → MemoryIsZero rows
rows_are_zero rows table small o are = record {
  table = table;
  zero = λ i number h. zero_number (memory_values (spot_of rows i)) number (spot_zeros rows table small o are i h);
}
