-- The ranks of keys.
use Rattle.sound_blocks.proofs.Words.{◌≡◌, ℕ, zero, suc, ◌+◌, ◌-◌, ◌<◌, ◌≤◌, ◌^◌, length, refl, ap, ◌∙◌, arith, ◌⊞◌, prime, deep_at_start, input_key}
use Rattle.sound_blocks.proofs.Words.{input_keys, key_of, Claim, rank_of}

rank_none : (k : Claim) → rank_of k 0 ≡ 0
unfolding rank_of
rank_none k = refl

rank_some : (k : Claim) (at : ℕ) → 0 < at → rank_of k at ≡ suc (at ⊞ length (deep_at_start k))
unfolding rank_of
rank_some k zero h = absurd (omega (arith, h))
rank_some k (suc n) h = refl

clock_sum : (at n : ℕ) → at < 2 ^ 19 → n ≤ 2 ^ 19 → at ⊞ n ≡ n + at
clock_sum at n few shallow = omega arith

input_sum : (i n : ℕ) → i < n → n ≤ 2 ^ 19 → (prime - suc i) ⊞ n ≡ n - suc i
input_sum i n h shallow = omega arith

module _ (k : Claim) (shallow : length (deep_at_start k) ≤ 2 ^ 19) where
  rank_clock : (at : ℕ) → 0 < at → at < 2 ^ 19 → rank_of k at ≡ suc (length (deep_at_start k) + at)
  rank_clock at h few = rank_some k at h ∙ ap suc (clock_sum at (length (deep_at_start k)) few shallow)

  -- so many inputs are under the key of the first of them
  pub rank_inputs : (i n : ℕ) → i + n ≡ length (deep_at_start k) → rank_of k (key_of (input_keys i n)) ≡ n
  unfolding input_keys input_key
  rank_inputs i zero e = rank_none k
  rank_inputs i (suc n) e =
      rank_some k (prime - suc i) (omega (arith, e, shallow))
      ∙ ap suc (input_sum i (length (deep_at_start k)) (omega (arith, e)) shallow ∙ (let f : length (deep_at_start k) - suc i ≡ n = omega (arith, e) in f))

  -- a later clock has a greater rank, also than those of the inputs
  pub clock_falls : (at r l : ℕ) → at < r → r < l → l ≤ 2 ^ 19 → rank_of k at < rank_of k r
  clock_falls zero r l h within few = omega (arith, rank_none k, rank_clock r h (omega (arith, within, few)))
  clock_falls (suc n) r l h within few =
      omega (arith, h, rank_clock (suc n) (omega arith) (omega (arith, h, within, few)), rank_clock r (omega (arith, h)) (omega (arith, within, few)))

  pub inputs_fall : (r l : ℕ) → 0 < r → r < l → l ≤ 2 ^ 19 → rank_of k (key_of (input_keys 0 (length (deep_at_start k)))) < rank_of k r
  inputs_fall r l h within few =
      omega (arith, rank_inputs 0 (length (deep_at_start k)) (omega arith), rank_clock r h (omega (arith, within, few)))
