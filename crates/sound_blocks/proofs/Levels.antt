-- How many blocks are open before a row, and in which context it runs.
use Rattle.sound_blocks.proofs.Words.{◌≡◌, ℕ, suc, ◌^◌, ◌<◌, ◌≤◌, List, length, drop, sym, ap, ◌∙◌, subst, arith, felt_add, felt_sub, lv, Claim, level_after}
use Rattle.sound_blocks.proofs.Words.{row_at, ShowsRows, op_in, BlockFacts, Starts, RangeFacts, open_at}
use Rattle.sound_blocks.proofs.Operations.{Moves, moves_of}
use Rattle.sound_blocks.proofs.Rows.{each_row}
use Rattle.sound_blocks.proofs.OpenBlocks.{block_at, open_at-end, open_at-first, open_at-keep, open_at-start}

more_by : (n : ℕ) → n < 2 ^ 19 → felt_add n 1 ≡ suc n
more_by n few = omega arith

less_by : (n : ℕ) → n < 2 ^ 19 → felt_sub (suc n) 1 ≡ n
less_by n few = omega arith

below_limit : (n : ℕ) → n < 2 ^ 19 → felt_sub 1024 (suc n) < 2 ^ 16 → n < 1024
below_limit n few low = omega arith

module _ {k : Claim} {rows : List (List ℕ)} (shows : ShowsRows k rows) (few : length rows ≤ 2 ^ 19) (blocks : BlockFacts rows) where
  -- so many blocks are open, and no more than rows have passed
  pub record IsLevel (i : ℕ) : Type 0 where
    pub level : lv (row_at rows i) ≡ length (open_at rows i)
    pub most : length (open_at rows i) ≤ i

  -- behind row i, where so many are open
  level_from : (i n : ℕ) → suc i < length rows → length (open_at rows (suc i)) ≡ n → level_after (op_in rows i) (lv (row_at rows i)) ≡ n
      → n ≤ suc i → IsLevel (suc i)
  level_from i n within count is most =
      record { level = (shows.pair_is i within).pair.block.level ∙ is ∙ sym count; most = omega (arith, count, most) }

  behind_level : (i : ℕ) → suc i < length rows → IsLevel i → Moves (op_in rows i) → IsLevel (suc i)
  behind_level i within here (Moves.start is) =
      level_from i (suc (length (open_at rows i))) within (ap length (open_at-start rows i is))
      (rw (is, here.level) (more_by (length (open_at rows i)) (omega (arith, here.most, few, within)))) (omega (arith, here.most))
  behind_level i within here (Moves.keep no_start no_end) =
      level_from i (length (open_at rows i)) within (ap length (open_at-keep rows i no_start no_end)) (rw (no_start, no_end) here.level)
      (omega (arith, here.most))
  behind_level i within here (Moves.end is) =
      let found = blocks.block i (record { within = within; is = is }) in
      let block = block_at shows blocks found.1 in
      let count : length (open_at rows i) ≡ suc (length (open_at rows found.0)) = ap length block.newest in
      level_from i (length (open_at rows found.0)) within (ap length (open_at-end rows i is ∙ ap (drop 1) block.newest))
      (rw (is, here.level ∙ count) (less_by (length (open_at rows found.0)) (omega (arith, count, here.most, few, within))))
      (omega (arith, count, here.most))

  pub level_at : (i : ℕ) → i < length rows → IsLevel i
  level_at i within =
      each_row (length rows) IsLevel
      (λ some_row. record { level = (shows.first some_row).start.level ∙ sym (ap length (open_at-first rows)); most = rw (open_at-first rows) (omega arith) })
      (λ q h before. behind_level q h (before q (omega arith)) (moves_of (op_in rows q))) i within

  pub nested_at : RangeFacts rows → (j : ℕ) → Starts rows j → lv (row_at rows j) < 1024
  nested_at ranges j starts =
      let here = level_at j (omega (arith, starts.within)) in
      let count = (level_at (suc j) starts.within).level ∙ ap length (open_at-start rows j starts.is) in
      subst (λ n. n < 1024) (sym here.level)
      (below_limit (length (open_at rows j)) (omega (arith, here.most, few, starts.within)) (rw count at (ranges.nesting j starts)))
