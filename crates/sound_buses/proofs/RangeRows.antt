-- The values of the range table: from 0 to 65535, none less than the one before.
use Rattle.sound_buses.proofs.Words.{◌≡◌, ℕ, zero, suc, ◌+◌, ◌-◌, ◌*◌, ◌^◌, ◌<◌, ◌≤◌, inl, inr, List, [], ◌∷◌, length, slice_index, sym, ap, ◌∙◌, arith}
use Rattle.sound_buses.proofs.Words.{slice_get-get_or, slice_get_past, prime, felt_sub, felt_mul, same_from_sub, zero_factor, IsTable, row_at, v, at_number}
use Rattle.sound_buses.proofs.Words.{spot_of, numbers_zero}
use Rattle.std.proofs.lemmas.Bool.{cases_lt}
use Rattle.air_kit.specs.ChipPlaces.{in_last, paired}
use Rattle.air_kit.specs.RangeValues.{range_step, range_values}
use Rattle.facts_main.proofs.Says.{rest_low}

-- ---- one step

-- the product of a number and its differences to small ones
abbrev product : List ℕ → ℕ → ℕ
product [] d = d
product (k ∷ ks) d = felt_mul (product ks d) (felt_sub d k)

abbrev AreFew : List ℕ → Type 0
AreFew [] = Unit {0}
AreFew (k ∷ ks) = (k ≤ 2187) × AreFew ks

product_low : (ks : List ℕ) (d : ℕ) → d < prime → product ks d < prime
product_low [] d low = low
product_low (k ∷ ks) d low = rest_low (product ks d * felt_sub d k)

product_small : (ks : List ℕ) (d : ℕ) → AreFew ks → d < prime → product ks d ≡ 0 → d ≤ 2187
product_small [] d few low e = omega arith
product_small (k ∷ ks) d few low e =
    elim (zero_factor (product ks d) (felt_sub d k) (product_low ks d low) (rest_low (d + (prime - k))) e) [
      | inl z ↦ product_small ks d few.1 low z
      | inr z ↦ omega (arith, few.0, same_from_sub d k low (omega (arith, few.0)) z)
    ]

-- the nine steps
abbrev steps : List ℕ
steps = 2187 ∷ 729 ∷ 243 ∷ 81 ∷ 27 ∷ 9 ∷ 3 ∷ 1 ∷ []

-- ---- a run of small steps from 0 that ends at 65535

module _ (n : ℕ) (f : ℕ → ℕ) (few : n ≤ 2 ^ 17) (low : (i : ℕ) → f i < prime) (first : f 0 ≡ 0)
    (step : (i : ℕ) → suc i < n → felt_sub (f (suc i)) (f i) ≤ 2187) where
  no_wrap : (a b i : ℕ) → a < prime → b < prime → felt_sub b a ≤ 2187 → a ≤ 2187 * i → i ≤ 2 ^ 17 → (a ≤ b) × (b ≤ 2187 * suc i)
  no_wrap a b i la lb le at few = (omega (arith, la, lb, le, at, few), omega (arith, la, lb, le, at, few))

  climbs : (i : ℕ) → suc i < n → f i ≤ 2187 * i → (f i ≤ f (suc i)) × (f (suc i) ≤ 2187 * suc i)
  climbs i h at = no_wrap (f i) (f (suc i)) i (low i) (low (suc i)) (step i h) at (omega (arith, few, h))

  up_to : (i : ℕ) → i < n → f i ≤ 2187 * i
  up_to zero h = omega (arith, first)
  up_to (suc i) h = (climbs i h (up_to i (omega (arith, h)))).1

  -- no value is above the last one
  to_last : (i last : ℕ) → i ≤ last → last < n → f i ≤ f last
  to_last i zero le h = let e : i ≡ 0 = omega (arith, le) in omega (arith, ap f e)
  to_last i (suc last) le h = elim (cases_lt last i) [
    | inl less ↦ let e : i ≡ suc last = omega (arith, le, less) in omega (arith, ap f e)
    | inr more ↦ omega (arith, to_last i last more (omega (arith, h)), (climbs last h (up_to last (omega (arith, h)))).0)
  ]

-- ---- the rows

-- what a table whose entries are 0 shows
module _ (rows : List (List ℕ)) (shape : IsTable 2 rows) (few : length rows ≤ 2 ^ 17)
    (zero_at : (i number : ℕ) → i < length rows → at_number (range_values (spot_of rows i)) number ≡ 0) where
  values_zero : (i k : ℕ) → i < length rows → slice_index (range_values (spot_of rows i)) k ≡ 0
  values_zero i k h = numbers_zero (range_values (spot_of rows i)) (λ number. zero_at i number h) k

  abbrev value : ℕ → ℕ
  value i = v (row_at rows i)

  step_at : (i : ℕ) → suc i < length rows → product steps (felt_sub (value (suc i)) (value i)) ≡ 0
  unfolding range_values range_step
  step_at i h = sym (ap (paired (λ y. range_step (row_at rows i) y)) (slice_get-get_or rows (suc i) [] h)) ∙ values_zero i 2 (omega (arith, h))

  first_at : 0 < length rows → value 0 ≡ 0
  unfolding range_values
  first_at h = values_zero 0 0 h

  last_at : (i : ℕ) → suc i ≡ length rows → value i ≡ 65535
  unfolding range_values
  last_at i e =
      same_from_sub (value i) 65535 (shape.below i 1) (omega arith)
      (sym (ap (in_last (felt_sub (value i) 65535)) (slice_get_past rows (suc i) (omega (arith, e)))) ∙ values_zero i 1 (omega (arith, e)))

  pub values_short : (i : ℕ) → i < length rows → v (row_at rows i) < 2 ^ 16
  values_short i h =
      let few_steps : AreFew steps = omega arith in
      omega (
        arith,
        last_at (length rows - 1) (omega (arith, h)),
        to_last (length rows) value few (λ i. shape.below i 1) (first_at (omega (arith, h)))
            (λ i less. product_small steps (felt_sub (value (suc i)) (value i)) few_steps (rest_low (value (suc i) + (prime - value i))) (step_at i less))
            i (length rows - 1) (omega (arith, h)) (omega (arith, h)),
      )
