-- The rows of ordinary operations.
use Rattle.sound_runs.proofs.Words.{◌≡◌, ◌≢◌, ℕ, suc, ◌-◌, ◌<◌, true, List, [], ◌∷◌, length, slice_index, ap, sym, ◌∙◌, arith, is_ordinary_op, depth, s}
use Rattle.sound_runs.proofs.Words.{deep_at_start, is_left, Claim, elsewhere_at, Do, event_of, taking-ok, row_at, op_in, shifts_left_is, below_at, Lookups}
use Rattle.sound_runs.proofs.Words.{place_shows, item_at}
use Rattle.vm_ops.specs.Step.{act}
use Rattle.vm_ops.specs.Values.{advice_of}
use Rattle.sound_runs.proofs.Words.ops
use Rattle.sound_blocks.proofs.Operations.{op_named}
use Rattle.facts_steps.specs.Joined.{IsRowOf}
use Rattle.facts_steps.specs.Showing.{IsPlace}
use Rattle.facts_steps.proofs.Ordinary.{mover_is, ordinary}
use Rattle.sound_runs.proofs.BitRows.{bits_at}
use Rattle.sound_runs.proofs.Going.{GoesOn, early_at}
use Rattle.sound_runs.proofs.MemoryRows.{word_looked_up, words_at}
use Rattle.sound_runs.proofs.Premises.{Known, clock_at, state_in}

module _ {constants : List ℕ} {kernel rows : List (List ℕ)} {k : Claim} (known : Known constants kernel k rows) where
  row_of_at : (i : ℕ) → i < length rows → IsRowOf (row_at rows i) (elsewhere_at (deep_at_start k) rows i)
  row_of_at i h = record {
    early = omega (arith, clock_at known i h, h, known.few);
    depth_is = known.lists.depth_is i h;
    shallow = omega (arith, known.lists.bounded i h, known.shallow, h, known.few);
    words = words_at known i h;
  }

  looks_at : (i : ℕ) → suc i < length rows
      → Lookups constants (op_in rows i) (row_at rows i) (row_at rows (suc i)) (elsewhere_at (deep_at_start k) rows i)
  looks_at i within = record {
    ranges = λ j few. known.ranges.limb i j within few;
    bits = bits_at known i within;
    memory = word_looked_up known i within;
    permutes = λ is. known.permutes i (record { within = within; is = op_named (op_in rows i) ops.HPerm is });
  }

  -- a left shift of a deeper stack brings up the first cell below
  finds_at : (i : ℕ) → suc i < length rows → is_ordinary_op (op_in rows i) ≡ true → is_left (op_in rows i) ≡ true
      → depth (row_at rows i) ≢ 16 → s (row_at rows (suc i)) 15 ≡ slice_index (below_at k rows i) 0
  finds_at i within is left deep =
      sym (ap (λ (xs : List ℕ). slice_index xs 0)
      (known.lists.deep i within
      (shifts_left_is (row_at rows i) ∙ ap is_left (mover_is (op_in rows i) (row_at rows i) (ordinary (op_in rows i) is)) ∙ left) deep))

  place_at : (i : ℕ) → suc i < length rows → is_ordinary_op (op_in rows i) ≡ true → IsPlace constants (deep_at_start k) rows i
  place_at i within is = record {
    within = within;
    ordinary = is;
    here = row_of_at i (omega (arith, within));
    finds = finds_at i within is;
    looks = looks_at i within;
  }

  pub operation_goes : (i : ℕ) → suc i < length rows → is_ordinary_op (op_in rows i) ≡ true
      → GoesOn known i (Do (item_at rows i))
  operation_goes i within is = record {
    events = event_of (Do (item_at rows i)) (advice_of (op_in rows i)) (state_in k rows i) ∷ [];
    done =
        taking-ok (length rows - 1) (Do (item_at rows i)) (advice_of (op_in rows i)) (act constants (item_at rows i)) (state_in k rows i)
        (state_in k rows (suc i)) (early_at known i within)
        (place_shows constants (deep_at_start k) k rows i known.count known.shows (place_at i within is)).steps;
  }
