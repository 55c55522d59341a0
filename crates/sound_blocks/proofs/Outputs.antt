-- The cells that the last row has below the sixteenth are the outputs behind the sixteenth, along the table of cells left.
use Rattle.sound_blocks.proofs.Words.{◌≡◌, ℕ, zero, suc, ◌+◌, ◌<◌, ◌≤◌, List, [], ◌++◌, length, drop, slice_index, slice_index_or, slice_get, get_or, sym, ap}
use Rattle.sound_blocks.proofs.Words.{subst, ◌∙◌, arith, ext_get_or, get_or-drop, drop-cons, s, deep_at_start, Claim, cells, OverflowFacts, Chain}
use Rattle.std.proofs.lemmas.Option.{slice_get-get_or}
use Rattle.chip_columns.specs.LeftColumns as left
use Rattle.air_kit.specs.ChipTuples.{next_key}
use Rattle.sound_blocks.proofs.Listed.{listed}
use Rattle.sound_blocks.proofs.Chains.{KeysDiffer, Front, front_of}

-- the key of a row of the table of cells left
abbrev key_left : List (List ℕ) → ℕ → ℕ
key_left left_rows q = left.key (slice_index_or left_rows q [])

-- what is left, and the first key of it
pub record Leaves (k : Claim) (rows left_rows : List (List ℕ)) (below : List ℕ) : Type 0 where
  pub differ : KeysDiffer k rows
  pub overflow : OverflowFacts (deep_at_start k) rows left_rows k.outputs
  pub chain : 0 < length left_rows → Chain k rows (key_left left_rows 0) below
  pub size : length below ≡ length left_rows

-- ---- the whole stack

-- each cell of a list of a function's values and of others behind them is that of a function, where it is so in both
each_of : (f g : ℕ → ℕ) (below : List ℕ) (q n : ℕ) → ((j : ℕ) → q ≤ j → j < q + n → f j ≡ g j)
    → ((r : ℕ) → r < length below → get_or below r 0 ≡ g (q + n + r)) → (i : ℕ) → i < n + length below → get_or (listed f q n ++ below) i 0 ≡ g (q + i)
unfolding listed
each_of f g below q zero top rest i h = rest i (omega (arith, h)) ∙ ap g (let e : q + 0 + i ≡ q + i = omega arith in e)
each_of f g below q (suc n) top rest zero h = top q (omega arith) (omega arith) ∙ ap g (let e : q ≡ q + 0 = omega arith in e)
each_of f g below q (suc n) top rest (suc i) h =
    each_of f g below (suc q) n (λ j from few. top j (omega (arith, from)) (omega (arith, few)))
    (λ r few. rest r few ∙ ap g (let e : q + suc n + r ≡ suc q + n + r = omega arith in e)) i (omega (arith, h))
    ∙ ap g (let e : suc q + i ≡ q + suc i = omega arith in e)

-- the sixteen cells of a row and those below are as many
pub all_size : (x below : List ℕ) → length (cells x ++ below) ≡ 16 + length below
unfolding cells
all_size x below = omega arith

-- and each of them is that of a stack, where the sixteen are and those below are
pub each_is : (x below outputs : List ℕ) → ((j : ℕ) → j < 16 → s x j ≡ slice_index outputs j)
    → ((q : ℕ) → q < length below → get_or below q 0 ≡ slice_index outputs (16 + q))
    → (i : ℕ) → i < 16 + length below → get_or (cells x ++ below) i 0 ≡ get_or outputs i 0
unfolding cells listed
each_is x below outputs top rest i h =
    each_of (s x) (slice_index outputs) below 0 16 (λ j from few. top j (omega (arith, few))) (λ r few. rest r few) i h
    ∙ ap (slice_index outputs) (let e : 0 + i ≡ i = omega arith in e)

module _ {k : Claim} {rows left_rows : List (List ℕ)} {below : List ℕ} (l : Leaves k rows left_rows below) where
  front_left : {q : ℕ} → q < length left_rows → Chain k rows (key_left left_rows q) (drop q below)
      → Front k rows (key_left left_rows q) (slice_index k.outputs (16 + q)) (next_key (slice_get left_rows (suc q))) (drop q below)
  front_left {q} h chain = front_of l.differ chain (l.overflow.stays q h)

  pub walk : (q : ℕ) → q < length left_rows → Chain k rows (key_left left_rows q) (drop q below)
  walk zero h = l.chain h
  walk (suc q) h =
      let f = front_left (omega (arith, h)) (walk q (omega (arith, h))) in
      let behind : f.later ≡ drop (suc q) below = (let e = drop-cons below q 0 (omega (arith, l.size, h)) in let g = f.is in cc) in
      subst (Chain k rows (key_left left_rows (suc q))) behind
      (subst (λ (n : ℕ). Chain k rows n f.later) (ap next_key (slice_get-get_or left_rows (suc q) [] h)) f.chain)

  cell_left : (q : ℕ) → q < length left_rows → get_or below q 0 ≡ slice_index k.outputs (16 + q)
  cell_left q h =
      let f = front_left h (walk q h) in
      ap (λ n. get_or below n 0) (let e : q ≡ q + 0 = omega arith in e) ∙ sym (get_or-drop q below 0 0) ∙ ap (λ (xs : List ℕ). get_or xs 0 0) f.is

  pub stack_is : (x : List ℕ) → ((j : ℕ) → j < 16 → s x j ≡ slice_index k.outputs j) → length left_rows + 16 ≡ length k.outputs
      → cells x ++ below ≡ k.outputs
  stack_is x top count =
      ext_get_or 0 (cells x ++ below) k.outputs (omega (arith, all_size x below, l.size, count))
      (λ i h. each_is x below k.outputs top (λ q few. cell_left q (omega (arith, few, l.size))) i (omega (arith, h, all_size x below)))
