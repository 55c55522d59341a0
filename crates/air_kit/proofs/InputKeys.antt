-- The keys of inputs: elements that are greater than each clock, one for each input, and each less than the one before it.
use Rattle.std.proofs.Common.{◌≡◌, ℕ, zero, suc, ◌+◌, ◌<◌, ◌≤◌, ◌^◌, length, drop, slice_index, refl, ap, ◌∙◌, arith}
use Rattle.vm_field.specs.Field.{prime}
use Rattle.air_kit.specs.DeepCells.{input_key, input_keys, keys_at_start, key_of}

pub input_key_low : (i : ℕ) → input_key i < prime
unfolding input_key
input_key_low i = omega arith

pub input_key_high : (i : ℕ) → i < 2 ^ 20 → 2 ^ 20 ≤ input_key i
unfolding input_key
input_key_high i h = omega (arith, h)

pub input_key_one : (i j : ℕ) → i < 2 ^ 20 → j < 2 ^ 20 → input_key i ≡ input_key j → i ≡ j
unfolding input_key
input_key_one i j h g e = omega (arith, h, g, e)

pub input_keys_length : (i n : ℕ) → length (input_keys i n) ≡ n
unfolding input_keys
input_keys_length i zero = refl
input_keys_length i (suc n) = ap suc (input_keys_length (suc i) n)

pub input_keys_at : (i n j : ℕ) → j < n → slice_index (input_keys i n) j ≡ input_key (i + j)
unfolding input_keys
input_keys_at i zero j h = absurd (omega (arith, h))
input_keys_at i (suc n) zero h = ap input_key (let e : i ≡ i + 0 = omega arith in e)
input_keys_at i (suc n) (suc j) h =
    input_keys_at (suc i) n j (let few : j < n = omega (arith, h) in few) ∙ ap input_key (let e : suc i + j ≡ i + suc j = omega arith in e)

-- behind some of them stand those from a later number on
pub input_keys_drop : (m i n l : ℕ) → l ≡ m + n → drop m (input_keys i l) ≡ input_keys (i + m) n
unfolding input_keys
input_keys_drop zero i n l e =
    ap (λ j. input_keys j l) (let f : i ≡ i + 0 = omega arith in f) ∙ ap (input_keys (i + 0)) (let f : l ≡ n = omega (arith, e) in f)
input_keys_drop (suc m) i n zero e = absurd (omega (arith, e))
input_keys_drop (suc m) i n (suc l) e =
    input_keys_drop m (suc i) n l (let f : l ≡ m + n = omega (arith, e) in f)
    ∙ ap (λ j. input_keys j n) (let f : suc i + m ≡ i + suc m = omega arith in f)

-- the newest one's is the first of them
pub key_of_some : (n : ℕ) → 0 < n → key_of (keys_at_start n) ≡ input_key 0
key_of_some n h = input_keys_at 0 n 0 h

pub key_of_none : key_of (keys_at_start 0) ≡ 0
unfolding input_keys
key_of_none = refl
