-- The range table's entries are 0 exactly where its values go up by its steps.
use Rattle.std.proofs.Common.{◌≡◌, ℕ, zero, suc, ◌+◌, ◌-◌, ◌%◌, ◌<◌, ◌⊎◌, inl, inr, ⊎_elim, false, eqb, List, [], ◌∷◌, length, slice_get, slice_index, slice_index_or, refl, sym, ap, subst, ◌∙◌, arith}
use Rattle.std.proofs.lemmas.Bool.{cases_lt}
use Rattle.std.proofs.lemmas.Bool.Decides.{nat_tests}
use Rattle.std.proofs.lemmas.Option.{slice_get-get_or, slice_get_past}
use Rattle.vm_field.specs.Field.{prime, felt_sub, felt_mul}
use Rattle.vm_field.proofs.Algebra.{felt_sub-same, same_from_sub, zero_factor}
use Rattle.vm_table.specs.Layout.{IsTable}
use Rattle.air_kit.specs.ChipPlaces.{in_last, only, paired}
use Rattle.air_kit.specs.Places.{at_number}
use Rattle.air_kit.specs.RangeValues.{range_step, range_values}
use Rattle.air_kit.specs.Traces.{spot_of}
use Rattle.facts_lookup.specs.RangeTables.{GoesUp, RangeIsZero, IsRangeStep, none, one, three, nine, of_27, of_81, of_243, of_729, of_2187, value_at}

-- ---- one step

rest_low : (n : ℕ) → n % prime < prime
rest_low n = omega arith

-- the product of the differences to the nine steps
abbrev one_step : ℕ → ℕ
one_step d = felt_mul d (felt_sub d 1)

abbrev four_steps : ℕ → ℕ
four_steps d = felt_mul (felt_mul (felt_mul (one_step d) (felt_sub d 3)) (felt_sub d 9)) (felt_sub d 27)

abbrev all_steps : ℕ → ℕ
all_steps d =
    felt_mul (felt_mul (felt_mul (felt_mul (four_steps d) (felt_sub d 81)) (felt_sub d 243)) (felt_sub d 729)) (felt_sub d 2187)

-- the last factor is 0, or the product of those before
peel : (p d k : ℕ) → p < prime → d < prime → k < prime → IsRangeStep k → felt_mul p (felt_sub d k) ≡ 0 → (p ≡ 0) ⊎ IsRangeStep d
peel p d k lp ld lk step e =
    ⊎_elim (λ z. inl z) (λ z. inr (subst IsRangeStep (sym (same_from_sub d k ld lk z)) step))
    (zero_factor p (felt_sub d k) lp (rest_low (d + (prime - k))) e)

either : {A P : Type 0} → A ⊎ P → (A → P) → P
either (inl a) f = f a
either (inr p) f = p

one_is : (d : ℕ) → d < prime → one_step d ≡ 0 → IsRangeStep d
one_is d low e = either (peel d d 1 low low (omega arith) one e) (λ z. subst IsRangeStep (sym z) none)

four_is : (d : ℕ) → d < prime → four_steps d ≡ 0 → IsRangeStep d
four_is d low e =
    either (peel (felt_mul (felt_mul (one_step d) (felt_sub d 3)) (felt_sub d 9)) d 27 (rest_low _) low (omega arith) of_27 e)
    (λ e1. either (peel (felt_mul (one_step d) (felt_sub d 3)) d 9 (rest_low _) low (omega arith) nine e1)
    (λ e2. either (peel (one_step d) d 3 (rest_low _) low (omega arith) three e2) (one_is d low)))

steps_are : (d : ℕ) → d < prime → all_steps d ≡ 0 → IsRangeStep d
steps_are d low e =
    either (peel (felt_mul (felt_mul (felt_mul (four_steps d) (felt_sub d 81)) (felt_sub d 243)) (felt_sub d 729)) d 2187
    (rest_low _) low (omega arith) of_2187 e)
    (λ e1. either (peel (felt_mul (felt_mul (four_steps d) (felt_sub d 81)) (felt_sub d 243)) d 729 (rest_low _) low (omega arith) of_729 e1)
    (λ e2. either (peel (felt_mul (four_steps d) (felt_sub d 81)) d 243 (rest_low _) low (omega arith) of_243 e2)
    (λ e3. either (peel (four_steps d) d 81 (rest_low _) low (omega arith) of_81 e3) (four_is d low))))

steps_zero : (d : ℕ) → IsRangeStep d → all_steps d ≡ 0
steps_zero _ none = refl
steps_zero _ one = refl
steps_zero _ three = refl
steps_zero _ nine = refl
steps_zero _ of_27 = refl
steps_zero _ of_81 = refl
steps_zero _ of_243 = refl
steps_zero _ of_729 = refl
steps_zero _ of_2187 = refl

-- ---- from zeros

module _ (rows : List (List ℕ)) (shape : IsTable 2 rows) (zeros : RangeIsZero rows) where
  values_zero : (i k : ℕ) → i < length rows → slice_index (range_values (spot_of rows i)) k ≡ 0
  unfolding at_number
  values_zero i k h = zeros i (suc k) h

  first_is : 0 < length rows → value_at rows 0 ≡ 0
  unfolding range_values
  first_is h = values_zero 0 0 h

  last_is : (i : ℕ) → suc i ≡ length rows → value_at rows i ≡ 65535
  unfolding range_values
  last_is i e =
      same_from_sub (value_at rows i) 65535 (shape.below i 1) (omega arith)
      (sym (ap (in_last (felt_sub (value_at rows i) 65535)) (slice_get_past rows (suc i) (omega (arith, e)))) ∙ values_zero i 1 (omega (arith, e)))

  step_is : (i : ℕ) → suc i < length rows → all_steps (felt_sub (value_at rows (suc i)) (value_at rows i)) ≡ 0
  unfolding range_values range_step
  step_is i h =
      sym (ap (paired (λ y. range_step (slice_index_or rows i []) y)) (slice_get-get_or rows (suc i) [] h)) ∙ values_zero i 2 (omega (arith, h))

  goes_up : GoesUp rows
  goes_up = record {
    first = first_is;
    last = last_is;
    grows = λ i h. steps_are (felt_sub (value_at rows (suc i)) (value_at rows i))
        (rest_low (value_at rows (suc i) + (prime - value_at rows i))) (step_is i h);
  }

pub shows : (rows : List (List ℕ)) → IsTable 2 rows → RangeIsZero rows → GoesUp rows
shows rows shape zeros = goes_up rows shape zeros

-- ---- to zeros

three_zero : (a b c number : ℕ) → a ≡ 0 → b ≡ 0 → c ≡ 0 → at_number (a ∷ b ∷ c ∷ []) number ≡ 0
unfolding at_number
three_zero a b c zero za zb zc = refl
three_zero a b c (suc zero) za zb zc = za
three_zero a b c (suc (suc zero)) za zb zc = zb
three_zero a b c (suc (suc (suc zero))) za zb zc = zc
three_zero a b c (suc (suc (suc (suc number)))) za zb zc = refl

only_later : (i n : ℕ) → only (eqb (suc i) 0) n ≡ 0
only_later i n = let e : eqb (suc i) 0 ≡ false = grind (arith, nat_tests) in rw e refl

module _ (rows : List (List ℕ)) (up : GoesUp rows) where
  first_zero : (i : ℕ) → i < length rows → only (eqb i 0) (value_at rows i) ≡ 0
  first_zero zero h = up.first h
  first_zero (suc i) h = only_later i (value_at rows (suc i))

  behind_zero : (i : ℕ) → i < length rows
      → (in_last (felt_sub (value_at rows i) 65535) (slice_get rows (suc i)) ≡ 0)
      × (paired (λ y. range_step (slice_index_or rows i []) y) (slice_get rows (suc i)) ≡ 0)
  unfolding range_step
  behind_zero i h = elim (cases_lt (suc i) (length rows)) [
    | inl more ↦
        let next = slice_get-get_or rows (suc i) [] more in (
          ap (in_last (felt_sub (value_at rows i) 65535)) next,
          ap (paired (λ y. range_step (slice_index_or rows i []) y)) next
              ∙ steps_zero (felt_sub (value_at rows (suc i)) (value_at rows i)) (up.grows i more),
        )
    | inr no_more ↦
        let none_behind = slice_get_past rows (suc i) (omega (arith, no_more)) in
        let is = up.last i (omega (arith, no_more, h)) in (
          ap (in_last (felt_sub (value_at rows i) 65535)) none_behind ∙ felt_sub-same (value_at rows i) 65535 (omega (arith, is)) is,
          ap (paired (λ y. range_step (slice_index_or rows i []) y)) none_behind,
        )
  ]

pub zeros_of : (rows : List (List ℕ)) → GoesUp rows → RangeIsZero rows
unfolding range_values
zeros_of rows up i number h =
    let behind = behind_zero rows up i h in three_zero _ _ _ number (first_zero rows up i h) behind.0 behind.1
