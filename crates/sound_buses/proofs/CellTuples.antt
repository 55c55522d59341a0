-- The place of a tuple among those of cells with their keys, and the input that a tuple of the start is.
use Rattle.sound_buses.proofs.Words.{◌≡◌, ℕ, suc, ◌+◌, ◌-◌, ◌<◌, inl, inr, List, [], ◌∷◌, drop, length, slice_index, sym, ap, ◌∙◌, arith, counted}
use Rattle.std.proofs.lemmas.List.{get_or-drop}
use Rattle.air_kit.specs.DeepCells.{cell_tuples, input_key, input_keys, key_of, keys_at_start}
use Rattle.air_kit.proofs.InputKeys.{input_keys_at, input_keys_drop, input_keys_length}
use Rattle.sound_buses.specs.Overflow.{IsInput}
use Rattle.sound_buses.proofs.Tuples.{first_or, nothing_counts}

-- the tuple of the cell at this place
record IsPlace (keys cells tuple : List ℕ) : Type 0 where
  at : ℕ
  within : at < length keys
  tuple_is : slice_index keys at ∷ slice_index cells at ∷ key_of (drop (suc at) keys) ∷ [] ≡ tuple

one_behind : (key : ℕ) (keys cells tuple : List ℕ) → IsPlace keys (drop 1 cells) tuple → IsPlace (key ∷ keys) cells tuple
one_behind key keys cells tuple p = record {
  at = suc p.at;
  within = omega (arith, p.within);
  tuple_is =
      ap (λ n. slice_index keys p.at ∷ n ∷ key_of (drop (suc p.at) keys) ∷ [])
      (ap (slice_index cells) (let e : suc p.at ≡ 1 + p.at = omega arith in e) ∙ sym (get_or-drop 1 cells p.at 0))
      ∙ p.tuple_is;
}

-- a tuple that counts has a place
place_of : (keys cells tuple : List ℕ) → 0 < counted (cell_tuples keys cells) tuple → IsPlace keys cells tuple
unfolding cell_tuples
place_of [] cells tuple some = nothing_counts tuple some
place_of (key ∷ keys) cells tuple some = elim (first_or _ _ tuple some) [
  | inl here ↦ record { at = 0; within = omega arith; tuple_is = here }
  | inr behind ↦ one_behind key keys cells tuple (place_of keys (drop 1 cells) tuple behind)
]

-- a tuple of the start is that of an input
pub input_of : (deep : List ℕ) (at cell below : ℕ)
    → 0 < counted (cell_tuples (keys_at_start (length deep)) deep) (at ∷ cell ∷ below ∷ []) → IsInput deep at cell below
input_of deep at cell below some = record {
  number = p.at;
  within = within;
  key_is = sym (part 0) ∙ input_keys_at 0 (length deep) p.at within ∙ ap input_key (let e : 0 + p.at ≡ p.at = omega arith in e);
  cell_is = sym (part 1);
  below_is = sym (part 2)
      ∙ ap key_of (input_keys_drop (suc p.at) 0 (length deep - suc p.at) (length deep) (omega (arith, within))
      ∙ ap (λ i. input_keys i (length deep - suc p.at)) (let e : 0 + suc p.at ≡ suc p.at = omega arith in e));
}
  where
    p : IsPlace (keys_at_start (length deep)) deep (at ∷ cell ∷ below ∷ [])
    p = place_of (keys_at_start (length deep)) deep (at ∷ cell ∷ below ∷ []) some

    within : p.at < length deep
    within = rw (input_keys_length 0 (length deep)) at p.within

    keys : List ℕ
    keys = keys_at_start (length deep)

    part : (j : ℕ)
        → slice_index (slice_index keys p.at ∷ slice_index deep p.at ∷ key_of (drop (suc p.at) keys) ∷ []) j ≡ slice_index (at ∷ cell ∷ below ∷ []) j
    part j = ap (λ xs. slice_index xs j) p.tuple_is
