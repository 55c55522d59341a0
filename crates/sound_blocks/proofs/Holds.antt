-- What holds of each row: its key's chain is what is below, its depth counts it, and its key is the clock of a row before.
use Rattle.sound_blocks.proofs.Words.{◌≡◌, ◌≢◌, ℕ, zero, suc, ◌+◌, ◌-◌, ◌<◌, ◌≤◌, ◌^◌, true, List, length, drop, slice_index, refl, sym, ap, ◌∙◌, arith}
use Rattle.sound_blocks.proofs.Words.{drop_all, drop-cons, AreElements, s, depth, key, deep_at_start, depth_at_start, input_key, input_keys, key_of, is_right}
use Rattle.sound_blocks.proofs.Words.{row_shifts_left, Claim, Overflow, overflow_at, row_at, ShowsRows, op_in, clock_is, off, OverflowFacts, input, pushed}
use Rattle.sound_blocks.proofs.Words.{FrameFacts, below_at, Chain, none, some, rank_of}
use Rattle.sound_blocks.proofs.Operations.{start_apart}
use Rattle.sound_blocks.proofs.Rows.{each_row}
use Rattle.sound_blocks.proofs.Chains.{KeysDiffer, Front, front_of}
use Rattle.sound_blocks.proofs.Ranks.{clock_falls, inputs_fall, rank_inputs}
use Rattle.sound_blocks.proofs.RowKinds.{Movement, right, deeper, calls, returns, keeps}
use Rattle.sound_blocks.proofs.Asides.{called_by}
use Rattle.sound_blocks.proofs.Returns.{overflow_in, next_is, return_back, aside_is, movement_at}

-- what is known of the tables
pub record Known (k : Claim) (rows left_rows : List (List ℕ)) : Type 0 where
  pub shows : ShowsRows k rows
  pub few : length rows ≤ 2 ^ 19
  pub shallow : depth_at_start k ≤ 2 ^ 19
  pub inputs : AreElements (deep_at_start k)
  pub overflow : OverflowFacts (deep_at_start k) rows left_rows k.outputs
  pub frames : FrameFacts rows

-- a key that falls below that of each cell which a row from row i on pushes; the first row pushes none
abbrev IsEarly : Claim → List (List ℕ) → ℕ → ℕ → Type 0
IsEarly k rows i at = (r : ℕ) → i ≤ r → 0 < r → r < length rows → rank_of k at < rank_of k r

pub record Holds (k : Claim) (rows : List (List ℕ)) (i : ℕ) : Type 0 where
  pub chain : Chain k rows (key (row_at rows i)) (below_at k rows i)
  pub depth_is : depth (row_at rows i) ≡ 16 + length (below_at k rows i)
  pub few : length (below_at k rows i) ≤ length (deep_at_start k) + i
  pub early : IsEarly k rows i (key (row_at rows i))

holds_by : {k : Claim} {rows : List (List ℕ)} {i at : ℕ} {cells : List ℕ} → below_at k rows i ≡ cells → key (row_at rows i) ≡ at → Chain k rows at cells
    → depth (row_at rows i) ≡ 16 + length cells → length cells ≤ length (deep_at_start k) + i → IsEarly k rows i at → Holds k rows i
holds_by b e chain depth_is few early =
    record { chain = rw (b, e) chain; depth_is = rw b depth_is; few = rw b few; early = λ r from more within. rw e (early r from more within) }

-- the inputs from number i on are a chain
chain_from : (k : Claim) (rows : List (List ℕ)) → length (deep_at_start k) ≤ 2 ^ 19 → (i n : ℕ) → i + n ≡ length (deep_at_start k)
    → Chain k rows (key_of (input_keys i n)) (drop i (deep_at_start k))
unfolding input_keys
chain_from k rows shallow i zero e = rw (drop_all i (deep_at_start k) (omega (arith, e))) none
chain_from k rows shallow i (suc n) e =
    rw (drop-cons (deep_at_start k) i 0 (omega (arith, e)))
    (some (input_key i) (slice_index (deep_at_start k) i) (key_of (input_keys (suc i) n)) (drop (suc i) (deep_at_start k))
    (input (record {
      number = i;
      within = omega (arith, e);
      key_is = refl;
      cell_is = refl;
      below_is = ap (λ m. key_of (input_keys (suc i) m)) (let f : n ≡ length (deep_at_start k) - suc i = omega (arith, e) in f);
    }))
    (omega (arith, rank_inputs k shallow (suc i) n (omega (arith, e)), rank_inputs k shallow i (suc n) e))
    (chain_from k rows shallow (suc i) n (omega (arith, e))))

below_first : (k : Claim) (rows : List (List ℕ)) → below_at k rows 0 ≡ deep_at_start k
unfolding overflow_at
below_first k rows = refl

module _ {k : Claim} {rows left_rows : List (List ℕ)} (known : Known k rows left_rows) where
  -- few cells are below the sixteenth at the start
  start_few : length (deep_at_start k) ≤ 2 ^ 19
  start_few = let shallow : 16 + length (deep_at_start k) ≤ 2 ^ 19 = known.shallow in omega (arith, shallow)

  -- the first row is one of a start, so keys are those of one cell each
  pub differ_of : 0 < length rows → KeysDiffer k rows
  differ_of h = record { few = known.few; shallow = start_few; goes = (start_apart (op_in rows 0) (known.shows.first h).start.starts).1 }

  -- and no row before the second one pushes a cell
  pub pushes_later : (i : ℕ) → suc i < length rows → is_right (op_in rows i) ≡ true → 0 < i
  pushes_later zero h r = off (sym (differ_of (omega (arith, h))).goes ∙ r)
  pushes_later (suc i) h r = omega arith

  -- what is in front of the cells, where a left shift brings it up
  pub front_at : {i : ℕ} → suc i < length rows → Holds k rows i → row_shifts_left (row_at rows i) ≡ true → depth (row_at rows i) ≢ 16
      → Front k rows (key (row_at rows i)) (s (row_at rows (suc i)) 15) (key (row_at rows (suc i))) (below_at k rows i)
  front_at {i} within here l a = front_of (differ_of (omega (arith, within))) here.chain (known.overflow.brought i within l a)

  -- behind a row that pushes a cell, the key is its number
  pub pushed_key : {i : ℕ} → suc i < length rows → is_right (op_in rows i) ≡ true → key (row_at rows (suc i)) ≡ i
  pushed_key {i} within r =
      ((known.shows.pair_is i within).stack.depth_moves.right r).1
      ∙ clock_is k rows known.shows (omega (arith, known.few)) i (omega (arith, within))

  below_next : (i : ℕ) {o : Overflow} → overflow_in k rows (suc i) ≡ o → below_at k rows (suc i) ≡ o.below
  below_next i e = ap (λ (v : Overflow). v.below) e

  step : (i : ℕ) → suc i < length rows → ((j : ℕ) → j ≤ i → Holds k rows j) → Movement (row_at rows i) (row_at rows (suc i)) → Holds k rows (suc i)
  step i within earlier (right r stays behind d e) =
      let here = earlier i (omega arith) in
      holds_by (below_next i (next_is k rows i ∙ behind _)) (pushed_key within r)
      (some i (s (row_at rows i) 15) (key (row_at rows i)) (below_at k rows i)
      (pushed (record { within = within; right = r; cell_is = refl; below_is = refl }))
      (here.early i (omega arith) (pushes_later i within r) (omega (arith, within))) here.chain)
      (omega (arith, d, here.depth_is, here.few, start_few, within, known.few)) (omega (arith, here.few))
      (λ r from more h. clock_falls k start_few i r (length rows) from h known.few)
  step i within earlier (keeps stays behind d e) =
      let here = earlier i (omega arith) in
      holds_by (below_next i (next_is k rows i ∙ behind _)) e here.chain (d ∙ here.depth_is) (omega (arith, here.few))
      (λ r from more h. here.early r (omega (arith, from)) more h)
  step i within earlier (deeper l a stays behind d) =
      let here = earlier i (omega arith) in
      let f = front_at within here l a in
      holds_by (below_next i (next_is k rows i ∙ behind _) ∙ ap (drop 1) f.is) refl f.chain
      (omega (arith, d, here.depth_is, ap length f.is, here.few, start_few, within, known.few)) (omega (arith, here.few, ap length f.is))
      (λ r from more h. omega (arith, f.falls, here.early r (omega (arith, from)) more h))
  step i within earlier (calls c behind d e) =
      holds_by (below_next i (next_is k rows i ∙ behind _)) e none d (omega arith)
      (λ r from more h. clock_falls k start_few 0 r (length rows) more h known.few)
  step i within earlier (returns t) =
      let b = called_by known.frames within t in
      let there = earlier b.0 (omega (arith, b.1.later)) in
      let frame = b.1.closes.frame b.2 in
      holds_by (below_next i (return_back k rows b.0 i b.1 b.2 (aside_is k rows known.shows known.frames i (omega (arith, within)))))
      (ap (λ xs. slice_index xs 4) frame) there.chain (ap (λ xs. slice_index xs 3) frame ∙ there.depth_is) (omega (arith, there.few, b.1.later))
      (λ r from more h. there.early r (omega (arith, from, b.1.later)) more h)

  first_holds : 0 < length rows → Holds k rows 0
  first_holds h =
      let start = (known.shows.first h).start in
      holds_by (below_first k rows) start.key_is (chain_from k rows start_few 0 (length (deep_at_start k)) (omega arith)) start.depth_is (omega arith)
      (λ r from more within. inputs_fall k start_few r (length rows) more within known.few)

  pub holds : (i : ℕ) → i < length rows → Holds k rows i
  holds i h = each_row (length rows) (Holds k rows) first_holds (λ q within before. step q within before (movement_at known.shows q within)) i h
