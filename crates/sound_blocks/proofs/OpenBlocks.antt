-- The blocks that are open before a row: the newest one is the one whose address the row has.
use Rattle.sound_blocks.proofs.Words.{◌≡◌, ℕ, suc, ◌<◌, ◌≤◌, true, false, List, [], ◌∷◌, length, drop, refl, sym, ap, ◌∙◌, arith, is_start_op, addr, is_op}
use Rattle.sound_blocks.proofs.Words.{Claim, row_at, ShowsRows, op_in, BlockFacts, Closes, Starts, own, IsBlock, newest_address, open_at}
use Rattle.sound_blocks.proofs.Words.ops
use Rattle.sound_blocks.proofs.Operations.{Moves, moves_of, neither_is}
use Rattle.sound_blocks.proofs.Rows.{each_row}

-- ---- the list of open blocks behind each kind of row

pub open_at-start : (rows : List (List ℕ)) (i : ℕ) → is_start_op (op_in rows i) ≡ true → open_at rows (suc i) ≡ i ∷ open_at rows i
unfolding open_at
open_at-start rows i is = rw is

pub open_at-end : (rows : List (List ℕ)) (i : ℕ) → op_in rows i ≡ ops.End → open_at rows (suc i) ≡ drop 1 (open_at rows i)
unfolding open_at
open_at-end rows i is = rw is

pub open_at-keep : (rows : List (List ℕ)) (i : ℕ) → is_start_op (op_in rows i) ≡ false → is_op (op_in rows i) ops.End ≡ false
    → open_at rows (suc i) ≡ open_at rows i
unfolding open_at
open_at-keep rows i no_start no_end = rw (no_start, no_end)

pub open_at-first : (rows : List (List ℕ)) → open_at rows 0 ≡ []
unfolding open_at
open_at-first rows = refl

-- ---- the newest of them

data Newest (rows : List (List ℕ)) (i : ℕ) : Type 0 where
  none : addr (row_at rows i) ≡ 0 → open_at rows i ≡ [] → Newest rows i
  some : (j : ℕ) → j < i → Starts rows j → own rows j ≡ addr (row_at rows i) → open_at rows i ≡ j ∷ open_at rows j → Newest rows i

-- a later row that stands where row i stands
later : {rows : List (List ℕ)} {i k : ℕ} → i < k → addr (row_at rows k) ≡ addr (row_at rows i) → open_at rows k ≡ open_at rows i
    → Newest rows i → Newest rows k
later less same as_open (none outside empty) = none (same ∙ outside) (as_open ∙ empty)
later less same as_open (some j before starts own_is newest) = some j (omega (arith, before, less)) starts (own_is ∙ sym same) (as_open ∙ newest)

pub no_zero : {A : Type 0} (n : ℕ) → 0 < n → n ≡ 0 → A
no_zero n pos e = absurd (omega arith)

module _ {k : Claim} {rows : List (List ℕ)} (shows : ShowsRows k rows) (blocks : BlockFacts rows) where
  -- the END of a block is that of the newest one
  closes_newest : (j e : ℕ) → Newest rows e → Closes rows j e → IsBlock rows j e
  closes_newest j e (none outside empty) closes = no_zero (own rows j) (blocks.positive j closes.starts) (closes.own_is ∙ outside)
  closes_newest j e (some q before starts own_is newest) closes =
      let same = blocks.one q j starts closes.starts (own_is ∙ sym closes.own_is) in
      record { closes = closes; later = omega (arith, before, same); newest = newest ∙ ap (λ m. m ∷ open_at rows m) same }

  behind : (i : ℕ) → suc i < length rows → ((q : ℕ) → q ≤ i → Newest rows q) → Moves (op_in rows i) → Newest rows (suc i)
  behind i within before (Moves.start is) =
      some i (omega arith) (record { within = within; is = is }) refl (open_at-start rows i is)
  behind i within before (Moves.end is) =
      let found = blocks.block i (record { within = within; is = is }) in
      let block = closes_newest found.0 i (before i (omega arith)) found.1 in
      later (omega (arith, block.later)) block.closes.parent (open_at-end rows i is ∙ ap (drop 1) block.newest)
      (before found.0 (omega (arith, block.later)))
  behind i within before (Moves.keep no_start no_end) =
      later (omega arith) ((shows.pair_is i within).pair.block.block (neither_is (op_in rows i) no_start no_end))
      (open_at-keep rows i no_start no_end) (before i (omega arith))

  newest_at : (i : ℕ) → i < length rows → Newest rows i
  newest_at i within =
      each_row (length rows) (Newest rows) (λ some_row. none (shows.first some_row).start.block (open_at-first rows))
      (λ q h before. behind q h before (moves_of (op_in rows q))) i within

  pub address_at : (i : ℕ) → i < length rows → addr (row_at rows i) ≡ newest_address rows (open_at rows i)
  address_at i within = of (newest_at i within)
    where
      of : Newest rows i → addr (row_at rows i) ≡ newest_address rows (open_at rows i)
      of (none outside empty) = outside ∙ sym (ap (newest_address rows) empty)
      of (some j before starts own_is newest) = sym own_is ∙ sym (ap (newest_address rows) newest)

  pub block_at : {j e : ℕ} → Closes rows j e → IsBlock rows j e
  block_at {j} {e} closes = closes_newest j e (newest_at e (omega (arith, closes.ends.within))) closes
