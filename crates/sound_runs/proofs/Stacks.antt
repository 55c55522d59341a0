-- The cells of a row and of the row behind it, where the row moves no cell, and where it takes the top one off.
use Rattle.sound_runs.proofs.Words.{◌≡◌, ◌≢◌, inl, inr, ℕ, ◌+◌, ◌-◌, ◌<◌, true, false, eqb, List, [], ◌∷◌, ◌++◌, drop, length, length-drop, max, slice_index}
use Rattle.sound_runs.proofs.Words.{ap, sym, ◌∙◌, arith, filled_up, length-filled_up, index-filled_up, takes_of, leaves_of, Op, s, depth, is_left, cells}
use Rattle.sound_runs.proofs.Words.{ShiftsCells, cells_index, length_cells, top_index}
use Rattle.std.proofs.lemmas.Grind.{same_number_lists}
use Rattle.std.proofs.lemmas.Bool.{and_left, and_right, cases_eq, cases_lt, ne_eqb}
use Rattle.std.proofs.lemmas.List.{ext_get_or, get_or-drop, nil_from_length}
use Rattle.sound_blocks.proofs.Outputs.{all_size, each_is}

-- ---- no cell is moved

pub cells_stay : (m : Op) (x y : List ℕ) → takes_of m ≡ 0 → leaves_of m ≡ 0 → is_left m ≡ false → ShiftsCells m x y → cells x ≡ cells y
cells_stay m x y takes leaves left moves = same_number_lists (cells x) (cells y) (length_cells x ∙ sym (length_cells y)) each
  where
    each : (k : ℕ) → k < length (cells x) → slice_index (cells x) k ≡ slice_index (cells y) k
    each k h =
        let few : k < 16 = omega (arith, h, length_cells x) in
        cells_index x k few ∙ ap (s x) (let e : k ≡ k + takes_of m - leaves_of m = omega (arith, takes, leaves) in e)
        ∙ sym (moves.brings k (omega (arith, leaves)) few (and_left (is_left m) (eqb k 15) left)) ∙ sym (cells_index y k few)

-- ---- the top cell is taken off

-- sixteen cells that are the first of a list, and the others behind them, are the list, filled up
pub all_filled : (x whole : List ℕ) → ((j : ℕ) → j < 16 → s x j ≡ slice_index whole j) → cells x ++ drop 16 whole ≡ filled_up whole
all_filled x whole top =
    ext_get_or 0 (cells x ++ drop 16 whole) (filled_up whole) (all_size x (drop 16 whole)
    ∙ (let e : 16 + length (drop 16 whole) ≡ max 16 (length whole) = omega (arith, length-drop 16 whole) in e) ∙ sym (length-filled_up whole)) (λ i h.
    each_is x (drop 16 whole) whole top (λ q few. get_or-drop 16 whole q 0) i (omega (arith, h, all_size x (drop 16 whole)))
    ∙ sym (index-filled_up whole i))

-- with what is below: at depth sixteen it stays empty, else its first cell is brought up
pub stack_popped : (m : Op) (x y below after : List ℕ) → takes_of m ≡ 1 → leaves_of m ≡ 0 → is_left m ≡ true → ShiftsCells m x y
    → depth x ≡ 16 + length below → (depth x ≡ 16 → after ≡ below) → (depth x ≢ 16 → below ≡ s y 15 ∷ after)
    → filled_up (drop 1 (cells x ++ below)) ≡ cells y ++ after
unfolding cells
stack_popped m x y below after takes leaves left moves depth_is flat deep =
    sym (all_filled y (drop 1 (cells x ++ below)) top) ∙ ap (λ (b : List ℕ). cells y ++ b) brought.0
  where
    brought : (drop 1 below ≡ after) × (s y 15 ≡ slice_index below 0)
    brought = elim (cases_eq (depth x) 16) [
      | inl at ↦
          let none : below ≡ [] = nil_from_length below (omega (arith, depth_is, at)) in
          (ap (drop 1) none ∙ sym (flat at ∙ none), moves.last left at ∙ sym (ap (λ (b : List ℕ). slice_index b 0) none))
      | inr apart ↦ (ap (drop 1) (deep apart), sym (ap (λ (b : List ℕ). slice_index b 0) (deep apart)))
    ]

    top : (j : ℕ) → j < 16 → s y j ≡ slice_index (drop 1 (cells x ++ below)) j
    top j h = elim (cases_lt j 15) [
      | inl few ↦
          let apart : j ≢ 15 = omega (arith, few) in
          moves.brings j (omega (arith, leaves)) h (and_right (is_left m) (eqb j 15) (ne_eqb j 15 apart))
          ∙ ap (s x) (let e : j + takes_of m - leaves_of m ≡ 1 + j = omega (arith, takes, leaves) in e)
          ∙ sym (top_index x below (1 + j) (omega (arith, few))) ∙ sym (get_or-drop 1 (cells x ++ below) j 0)
      | inr more ↦
          let last : j ≡ 15 = omega (arith, h, more) in
          ap (s y) last ∙ brought.1 ∙ ap (slice_index (drop 1 (cells x ++ below))) (sym last)
    ]
