-- How often a place stands in a list.
use Rattle.std.proofs.Common.{◌≡◌, ℕ, ◌+◌, ◌≤◌, Bool, true, false, cond, eqb, List, [], ◌∷◌, Option, Some, None, inl, inr, refl, sym, ap, ap₂, ◌∙◌, zero-add, arith}
use Rattle.std.specs.Prelude.{filter, nat_eq}
use Rattle.std.specs.List.{Contains, cons_option}
use Rattle.std.proofs.lemmas.Bool.Decides.{eqb_tells}
use Rattle.std.proofs.lemmas.List.Sums.{sum_by-cons}
use Rattle.masm_names.specs.Uses.{Use, Own}
use Rattle.masm_names.specs.UsedPlaces.{place_used, places_used, times_among}
use Rattle.masm_names.proofs.DoubleLemmas.{cons_cases}

times-cons : (x : ℕ) (xs : List ℕ) (q : ℕ) → times_among (x ∷ xs) q ≡ cond (nat_eq q x) 1 0 + times_among xs q
times-cons x xs q = sum_by-cons (λ y. cond (nat_eq q y) 1 0) x xs

pub times_yes : (x : ℕ) (xs : List ℕ) (q : ℕ) → eqb q x ≡ true → times_among (x ∷ xs) q ≡ 1 + times_among xs q
times_yes x xs q yes_is = times-cons x xs q ∙ ap (λ b. cond b 1 0 + times_among xs q) yes_is

pub times_no : (x : ℕ) (xs : List ℕ) (q : ℕ) → eqb q x ≡ false → times_among (x ∷ xs) q ≡ times_among xs q
times_no x xs q no_is = times-cons x xs q ∙ (ap (λ b. cond b 1 0 + times_among xs q) no_is ∙ zero-add (times_among xs q))

-- what a filter keeps it keeps as often as it was there
module _ (p : ℕ → Bool) (q : ℕ) where
  passes : (x : ℕ) (row : List ℕ) → eqb q x ≡ false → (b : Bool)
      → times_among (cond b (x ∷ filter p row) (filter p row)) q ≡ times_among (filter p row) q
  passes x row apart true = times_no x (filter p row) q apart
  passes x row apart false = refl

  pub times_kept : p q ≡ true → (row : List ℕ) → times_among (filter p row) q ≡ times_among row q
  times_kept keeps [] = refl
  times_kept keeps (x ∷ row) = elim (eqb_tells q x) [
    | inl same ↦
        ap (λ b. times_among (cond b (x ∷ filter p row) (filter p row)) q) (ap p (sym same.1) ∙ keeps)
        ∙ (times_yes x (filter p row) q same.0 ∙ (ap (λ n. 1 + n) (times_kept keeps row) ∙ sym (times_yes x row q same.0)))
    | inr apart ↦ passes x row apart.0 (p x) ∙ (times_kept keeps row ∙ sym (times_no x row q apart.0))
  ]

  pub times_dropped : p q ≡ false → (row : List ℕ) → times_among (filter p row) q ≡ 0
  times_dropped drops [] = refl
  times_dropped drops (x ∷ row) = elim (eqb_tells q x) [
    | inl same ↦
        ap (λ b. times_among (cond b (x ∷ filter p row) (filter p row)) q) (ap p (sym same.1) ∙ drops) ∙ times_dropped drops row
    | inr apart ↦ passes x row apart.0 (p x) ∙ times_dropped drops row
  ]

-- the place of a use that is left stands among those of the uses
pub times_some : (own : List ℕ → Option ℕ) (uses : List Use) (u : Use) (q : ℕ) → Contains uses u → u.kind ≡ Own → u.refers ≡ false
    → own u.name ≡ Some q
    → 1 ≤ times_among (places_used own uses) q
times_some own [] u q has kind runs leads = absurd (omega (arith, has.1))
times_some own (v ∷ uses) u q has kind runs leads = elim (cons_cases v uses u has) [
  | inl same ↦
      let first : place_used own v.kind v.refers v.name ≡ Some q =
      ap (λ (w : Use). place_used own w.kind w.refers w.name) same
      ∙ (ap₂ (λ k r. place_used own k r u.name) kind runs ∙ leads) in
      let more = ap (λ o. times_among (cons_option o (places_used own uses)) q) first in
      let one = eqb_tells q q in
      elim one [
        | inl here ↦ let counted = times_yes q (places_used own uses) q here.0 in omega (arith, more, counted)
        | inr apart ↦ absurd (apart.1 refl)
      ]
  | inr later ↦ at_most (place_used own v.kind v.refers v.name) (times_some own uses u q later kind runs leads)
]
  where
    at_most : (o : Option ℕ) → 1 ≤ times_among (places_used own uses) q → 1 ≤ times_among (cons_option o (places_used own uses)) q
    at_most None h = h
    at_most (Some x) h = elim (eqb_tells q x) [
      | inl here ↦ let counted = times_yes x (places_used own uses) q here.0 in omega arith
      | inr apart ↦ let counted = times_no x (places_used own uses) q apart.0 in omega arith
    ]
