-- The limbs of memory's rows have 16 bits: the range table gives them.
use Rattle.sound_buses.proofs.Words.{ℕ, ◌^◌, ◌<◌, ◌≤◌, List, [], ◌∷◌, length, arith, counted, over_rows, memory_ranges, range_given, row_at}
use Rattle.chip_columns.specs.RangeColumns as range
use Rattle.facts_memory.specs.MemoryTables.{HaveLimbs}
use Rattle.sound_buses.proofs.RangeBus.{given_short}
use Rattle.sound_buses.proofs.TableSums.{table_has}
use Rattle.sound_buses.proofs.Tuples.{counts_behind, counts_first}

module _ (rows table : List (List ℕ)) (short : (i : ℕ) → i < length table → range.v (row_at table i) < 2 ^ 16)
    (alike : (u : List ℕ) → over_rows (λ i x next. memory_ranges x) rows u ≤ over_rows (λ i x next. range_given x) table u) where
  limb : (i n : ℕ) → i < length rows → 0 < counted (memory_ranges (row_at rows i)) (n ∷ []) → n < 2 ^ 16
  limb i n h some =
      given_short table short n
      (omega (arith, table_has {tuples = λ i x next. memory_ranges x} {i = i} (record { within = h; positive = some }), alike (n ∷ [])))

  pub memory_limbs : HaveLimbs rows
  unfolding memory_ranges
  memory_limbs i h = record {
    d0_small = limb i _ h (counts_first _ _);
    d1_small = limb i _ h (counts_behind _ _ _ (counts_first _ _));
    a0_small = limb i _ h (counts_behind _ _ _ (counts_behind _ _ _ (counts_first _ _)));
    a1_small = limb i _ h (counts_behind _ _ _ (counts_behind _ _ _ (counts_behind _ _ _ (counts_first _ _))));
  }
