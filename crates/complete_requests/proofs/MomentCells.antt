-- What a moment's row and the row behind it show of hashes.
use Rattle.complete_rows.proofs.Words
use Words.{◌≡◌, ℕ, ◌<◌, false, List, ◌∷◌, length, slice_index, sym, ◌∙◌, arith, lit<, ext_get_or, Core, is_ordinary_op, h, Mark, Do, IsWholeMark, hash_of}
use Words.{op_of_mark, hash-batch, eight, shown_between, never, Decoder, advance, hash_by, kind_of, IsMoment}
use Rattle.complete_rows.proofs.ColumnLemmas.{below_by}
use Rattle.complete_rows.proofs.LineLemmas.{ha_low, next_low}
use Rattle.complete_rows.proofs.MomentFacts.{advice_of, moment_behind, moment_event, moment_hash, moment_op, moment_shows, place_shows}
use Rattle.complete_requests.proofs.HasherBus.{IsLow}
use Rattle.complete_requests.proofs.HasherSteps.{Cells}

-- eight cells as a list
eight_are : (xs x : List ℕ) → length xs ≡ 8 → ((j : ℕ) → j < 8 → h x j ≡ slice_index xs j) → eight x ≡ xs
eight_are xs x size cells =
    ext_get_or 0 (eight x) xs (sym size)
    (below_by 8 (λ j. slice_index (eight x) j ≡ slice_index xs j) (
      cells 0 (lit< tt),
      (
        cells 1 (lit< tt),
        (
          cells 2 (lit< tt),
          (
            cells 3 (lit< tt),
            (cells 4 (lit< tt), (cells 5 (lit< tt), (cells 6 (lit< tt), (cells 7 (lit< tt), tt)))),
          ),
        ),
      ),
    ))

-- a row of blocks shows the hash of its mark
mark_hash : (mark : Mark) → IsWholeMark mark → (d : Decoder) (advice : List ℕ) (c b : Core) (x : List ℕ)
    → ((j : ℕ) → j < 8 → h x j ≡ slice_index (hash_by (kind_of (op_of_mark mark)) d (shown_between mark advice c b)) j)
    → is_ordinary_op (op_of_mark mark) ≡ false → (j : ℕ) → j < 8 → h x j ≡ slice_index (hash_of mark) j
mark_hash (Do item) w d advice c b x cells is = never (sym w.ordinary ∙ is)
mark_hash mark w d advice c b x cells is = cells

module _ {constants : List ℕ} {kernel : List (List ℕ)} {limit : ℕ} {x y : List ℕ} (m : IsMoment constants kernel limit x y) where
  pub moment_eight : is_ordinary_op (op_of_mark m.mark) ≡ false → eight x ≡ hash_of m.mark
  moment_eight is = eight_are (hash_of m.mark) x (hash-batch m.mark m.whole).size
      (mark_hash m.mark m.whole m.d (advice_of m) m.s.core (moment_behind m) x (moment_hash m) is)

  pub moment_cells : Cells m.mark m.d (advance m.d (moment_event m) m.later) x y
  moment_cells = record {
    op = moment_op m;
    eight = moment_eight;
    address = (moment_shows m).address;
    behind = (place_shows m.next).address;
    batch = (moment_shows m).batch;
  }

  pub moment_low : IsLow m.d
  moment_low = record {
    next = omega (arith, next_low m.d m.s.core.clock (moment_event m ∷ m.later) m.bounded);
    ha = omega (arith, ha_low m.d m.s.core.clock (moment_event m ∷ m.later) m.bounded);
  }
