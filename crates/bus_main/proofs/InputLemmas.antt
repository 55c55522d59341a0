-- The tuples of the inputs below the sixteenth, given one behind the other.
use Rattle.std.proofs.Common.{◌≡◌, ℕ, suc, ◌+◌, ◌-◌, ◌<◌, ◌≤◌, ◌^◌, List, [], ◌∷◌, ◌++◌, drop, slice_index, sym, ap, subst, ◌∙◌, arith}
use Rattle.std.proofs.lemmas.List.{append-nil, append_assoc, drop-drop, get_or-drop}
use Rattle.buses.specs.Counts.{Counted, once}
use Rattle.bus_kit.specs.Adding.{Tallied, IsCounted}
use Rattle.bus_kit.proofs.AddingLemmas.{counted_within, none_counted}
use Rattle.air_kit.specs.DeepCells.{cell_tuples, input_key, input_keys, key_of, keys_at_start}
use Rattle.air_kit.proofs.InputKeys.{input_keys_at}
use Rattle.bus_blocks.proofs.TwoLemmas.{given_first}

-- the first of the keys from a number on, and the one behind the last
pub key_here : (i n : ℕ) → i < n → input_key i ≡ key_of (input_keys i (n - i))
key_here i n h =
    sym (input_keys_at i (n - i) 0 (let some : 0 < n - i = omega (arith, h) in some) ∙ ap input_key (let e : i + 0 ≡ i = omega arith in e))

pub key_behind : (i n : ℕ) → n ≤ i → 0 ≡ key_of (input_keys i (n - i))
unfolding input_keys
key_behind i n h = ap (λ m. key_of (input_keys i m)) (let none : 0 ≡ n - i = omega (arith, h) in none)

-- the tuple of an input
abbrev pub tuple_of : ℕ → ℕ → List ℕ → List ℕ
tuple_of i n cells = input_key i ∷ slice_index cells i ∷ key_of (input_keys (suc i) (n - suc i)) ∷ []

-- those from a number on
abbrev tuples_from : ℕ → ℕ → List ℕ → List Counted
tuples_from i n cells = cell_tuples (input_keys i (n - i)) (drop i cells)

-- the inputs before this number were given
pub record AreGiven (old new : Tallied) (i n : ℕ) (cells : List ℕ) : Type 0 where
  pub tuples : List Counted
  pub given : IsCounted i old new [] tuples
  pub rest : tuples ++ tuples_from i n cells ≡ cell_tuples (keys_at_start n) cells

pub none_given : (old : Tallied) (n : ℕ) (cells : List ℕ) → AreGiven old old 0 n cells
none_given old n cells = record {
  tuples = [];
  given = none_counted 0 old;
  rest = ap (λ m. cell_tuples (input_keys 0 m) cells) (let e : n - 0 ≡ n = omega arith in e);
}

first_from : (i n : ℕ) (cells : List ℕ) → i < n → tuples_from i n cells ≡ once (tuple_of i n cells) ∷ tuples_from (suc i) n cells
unfolding cell_tuples input_keys
first_from i n cells h =
    ap (λ m. cell_tuples (input_keys i m) (drop i cells)) (let e : n - i ≡ suc (n - suc i) = omega (arith, h) in e)
    ∙ ap (λ cell. once (input_key i ∷ cell ∷ key_of (input_keys (suc i) (n - suc i)) ∷ []) ∷ cell_tuples (input_keys (suc i) (n - suc i)) (drop 1 (drop i cells)))
    (get_or-drop i cells 0 0 ∙ ap (slice_index cells) (let e : i + 0 ≡ i = omega arith in e))
    ∙ ap (λ later. once (tuple_of i n cells) ∷ cell_tuples (input_keys (suc i) (n - suc i)) later)
    (drop-drop 1 i cells ∙ ap (λ j. drop j cells) (let e : i + 1 ≡ suc i = omega arith in e))

pub one_more : (old now new : Tallied) (i n : ℕ) (cells : List ℕ) → AreGiven old now i n cells → i < n
    → IsCounted 1 now new [] (once (tuple_of i n cells) ∷ []) → AreGiven old new (suc i) n cells
one_more old now new i n cells so h p = record {
  tuples = so.tuples ++ once (tuple_of i n cells) ∷ [];
  given = given_first i 1 (suc i) old now new so.tuples [] (once (tuple_of i n cells) ∷ []) so.given p (omega arith);
  rest =
      append_assoc so.tuples (once (tuple_of i n cells) ∷ []) (tuples_from (suc i) n cells)
      ∙ ap (λ more. so.tuples ++ more) (sym (first_from i n cells h)) ∙ so.rest;
}

-- the same as the code has it
pub one_more_here : (old now new : Tallied) (i n : ℕ) (cells : List ℕ) → AreGiven old now i n cells → i < n → (key cell below : ℕ)
    → key ≡ input_key i → cell ≡ slice_index cells i → below ≡ key_of (input_keys (i + 1) (n - (i + 1)))
    → IsCounted 1 now new [] (once (key ∷ cell ∷ below ∷ []) ∷ []) → AreGiven old new (i + 1) n cells
one_more_here old now new i n cells so h key cell below key_is cell_is below_is p =
    subst (λ j. AreGiven old new j n cells) next
    (one_more old now new i n cells so h (rw (← key_is, ← cell_is, next, ← below_is) p))
  where
    next : suc i ≡ i + 1
    next = omega arith

pub all_given : (old new : Tallied) (i n : ℕ) (cells : List ℕ) → AreGiven old new i n cells → n ≤ i → i ≤ n → n ≤ 2 ^ 20
    → IsCounted (2 ^ 20) old new [] (cell_tuples (keys_at_start n) cells)
unfolding cell_tuples input_keys
all_given old new i n cells so past within few =
    subst (λ tuples. IsCounted (2 ^ 20) old new [] tuples) (sym (append-nil so.tuples) ∙ ap (λ more. so.tuples ++ more) (sym none) ∙ so.rest)
    (counted_within i (2 ^ 20) old new [] so.tuples so.given (let h : i ≤ 2 ^ 20 = omega (arith, within, few) in h))
  where
    none : tuples_from i n cells ≡ []
    none = ap (λ m. cell_tuples (input_keys i m) (drop i cells)) (let e : n - i ≡ 0 = omega (arith, past) in e)
