-- The first value of a list that is not 0.
use Rattle.std.proofs.Common.{◌≡◌, ◌≢◌, ℕ, zero, suc, ◌+◌, ◌<◌, true, false, cond, eqb, List, [], ◌∷◌, ◌++◌, length, slice_index, Some, None, refl, ap, subst, ◌∙◌, inl, inr, arith}
use Rattle.std.proofs.lemmas.Bool.{cases_Bool, eqb-true}
use Rattle.std.proofs.lemmas.Bool.Decides.{nat_tests}
use Rattle.air_kit.specs.Places.{family, first_fault_of, or_next}

-- over two lists one behind the other
pub first_append : (n : ℕ) (xs ys : List ℕ) → first_fault_of n (xs ++ ys) ≡ or_next (first_fault_of n xs) (first_fault_of (n + length xs) ys)
first_append n [] ys = let e : n ≡ n + 0 = omega arith in ap (λ k. first_fault_of k ys) e
first_append n (x ∷ xs) ys =
    elim (eqb x 0) as (λ b. cond b (first_fault_of (n + 1) (xs ++ ys)) (Some (n, x))
    ≡ or_next (cond b (first_fault_of (n + 1) xs) (Some (n, x))) (first_fault_of (n + suc (length xs)) ys)) [
      | true ↦
          first_append (n + 1) xs ys ∙ (let e : n + 1 + length xs
          ≡ n + suc (length xs) = omega arith in ap (λ k. or_next (first_fault_of (n + 1) xs) (first_fault_of k ys)) e)
      | false ↦ refl
    ]

by_index : (v : ℕ) (vs : List ℕ) (k : ℕ) → v ≡ 0 → ((j : ℕ) → slice_index vs j ≡ 0) → slice_index (v ∷ vs) k ≡ 0
by_index v vs zero is later = is
by_index v vs (suc k) is later = later k

-- where there is none, each value is 0
pub first_none : (n : ℕ) (values : List ℕ) → first_fault_of n values ≡ None → (k : ℕ) → slice_index values k ≡ 0
first_none n [] none k = refl
first_none n (v ∷ vs) none k =
    elim (cases_Bool (eqb v 0)) [
      | inl is ↦ by_index v vs k (eqb-true v 0 is) (first_none (n + 1) vs (rw is at none))
      | inr not ↦ absurd (let h : Some (n, v) ≡ None = rw not at none in cc)
    ]

-- the first fault, by its place in the list
pub record IsFirst (n : ℕ) (values : List ℕ) (f : ℕ × ℕ) : Type 0 where
  pub place : ℕ
  pub number_is : f.0 ≡ n + place
  pub value_is : f.1 ≡ slice_index values place
  pub nonzero : f.1 ≢ 0
  pub earlier : (k : ℕ) → k < place → slice_index values k ≡ 0

pub first_some : (n : ℕ) (values : List ℕ) (f : ℕ × ℕ) → first_fault_of n values ≡ Some f → IsFirst n values f
first_some n [] f some = absurd (cc)
first_some n (v ∷ vs) f some =
    elim (cases_Bool (eqb v 0)) [
      | inl is ↦ later (eqb-true v 0 is) (first_some (n + 1) vs f (rw is at some))
      | inr not ↦
          let same : (n, v) ≡ f = let h : Some (n, v) ≡ Some f = rw not at some in cc in
          let apart : v ≢ 0 = λ zero_is. (let t : eqb v 0 ≡ true = grind (arith, nat_tests, zero_is) in cc) in
          subst (IsFirst n (v ∷ vs)) same
          (record { place = 0; number_is = omega arith; value_is = refl; nonzero = apart; earlier = λ k h. absurd (omega (arith, h)) })
    ]
  where
    earlier_of : v ≡ 0 → (r : IsFirst (n + 1) vs f) → (k : ℕ) → k < suc r.place → slice_index (v ∷ vs) k ≡ 0
    earlier_of is r zero h = is
    earlier_of is r (suc k) h = r.earlier k (omega (arith, h))

    later : v ≡ 0 → IsFirst (n + 1) vs f → IsFirst n (v ∷ vs) f
    later is r = record {
      place = suc r.place;
      number_is = let e = r.number_is in omega (arith, e);
      value_is = r.value_is;
      nonzero = r.nonzero;
      earlier = earlier_of is r;
    }

-- a family's value
pub family_at : (n : ℕ) (value : ℕ → ℕ) (j : ℕ) → j < n → slice_index (family n value) j ≡ value j
unfolding family
family_at zero value j h = absurd (omega (arith, h))
family_at (suc n) value zero h = refl
family_at (suc n) value (suc j) h = family_at n (λ k. value (suc k)) j (omega (arith, h))
