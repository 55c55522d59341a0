-- The pass over a map's entries, each of which is added to the counts.
use Rattle.std.proofs.Common.{◌≡◌, ℕ, ◌^◌, ◌<◌, true, false, cond, List, [], ◌∷◌, map, Some, None, nat_eq, unwrap_or, refl, sym, ap, subst, ◌∙◌, arith, add-zero, inl, inr, ap₂}
use Rattle.std.specs.List.{AllByRecursion, IsDistinct}
use Rattle.std.specs.Map.{lookup}
use Rattle.std.specs.HashMap.{HashMap, get}
use Rattle.std.proofs.lemmas.Map.Keys.{IsDistinct-head, IsDistinct-tail}
use Rattle.std.proofs.lemmas.Bool.{cases_Bool}
use lib.Pointwise.{bytes_decides, pointwise}
use Rattle.bus_kit.specs.Counting.{both_in, both_hits, summed, FitTogether}
use Rattle.bus_kit.specs.Absorbing.{Entry, look, IsAbsorbed}

pub summed_zero : (both : ℕ × ℕ) → summed both (0, 0) ≡ both
summed_zero both = λ i. (add-zero both.0 i, add-zero both.1 i)

pub absorbed_at : {S : Type 0} (m n : HashMap (List ℕ) (ℕ × ℕ) S) (t : List ℕ) (more v : ℕ × ℕ) (u : List ℕ)
    → get (pointwise nat_eq) n u ≡ cond (pointwise nat_eq t u) (Some v) (get (pointwise nat_eq) m u)
    → v ≡ summed (both_in m t) more
    → both_in n u ≡ summed (both_in m u) (both_hits t more u)
absorbed_at m n t more v u at is =
    elim (pointwise nat_eq t u) as (λ b. pointwise nat_eq t u ≡ b
    → get (pointwise nat_eq) n u ≡ cond b (Some v) (get (pointwise nat_eq) m u)
    → both_in n u ≡ summed (both_in m u) (cond b more (0, 0))) [
      | true ↦ λ same got. ap (λ o. unwrap_or o (0, 0)) got ∙ is ∙ ap (λ k. summed (both_in m k) more) ((bytes_decides t u).0 same)
      | false ↦ λ apart got. ap (λ o. unwrap_or o (0, 0)) got ∙ sym (summed_zero (both_in m u))
    ] refl at

-- a tuple that differs from all is not found
not_found : (t : List ℕ) (es : List Entry) → AllByRecursion (λ y. pointwise nat_eq t y ≡ false) (map (λ e. e.0) es) → lookup (pointwise nat_eq t) es ≡ None
not_found t [] all = refl
not_found t (e ∷ es) all = rw all.0 (not_found t es all.1)

same_found : (t u : List ℕ) → t ≡ u → pointwise nat_eq u t ≡ true
same_found t u e = (bytes_decides u t).1 (sym e)

-- the counts of the entry that comes first
look_first : (t : List ℕ) (v : ℕ × ℕ) (es : List Entry) → look ((t, v) ∷ es) t ≡ v
look_first t v es = rw (same_found t t refl) refl

other_found : (t u : List ℕ) → pointwise nat_eq t u ≡ false → pointwise nat_eq u t ≡ false
other_found t u apart = elim (cases_Bool (pointwise nat_eq u t)) [
  | inl same ↦ let e : t ≡ u = sym ((bytes_decides u t).0 same) in let k = (bytes_decides t u).1 e in absurd (cc)
  | inr not ↦ not
]

-- the first entry and those behind it are disjoint parts
look_more : (t : List ℕ) (v a : ℕ × ℕ) (es : List Entry) (u : List ℕ) → AllByRecursion (λ y. pointwise nat_eq t y ≡ false) (map (λ e. e.0) es)
    → summed (summed a (both_hits t v u)) (look es u) ≡ summed a (look ((t, v) ∷ es) u)
look_more t v a es u all = elim (cases_Bool (pointwise nat_eq t u)) [
  | inl same ↦
      let e : t ≡ u = (bytes_decides t u).0 same in
      let none : look es u ≡ (0, 0) = subst (λ k. look es k ≡ (0, 0)) e (ap (λ o. unwrap_or o (0, 0)) (not_found t es all)) in
      rw (same, none, same_found t u e) (summed_zero (summed a v))
  | inr apart ↦ rw (apart, other_found t u apart) (ap (λ k. summed k (look es u)) (summed_zero a))
]

module _ (now old other : List ℕ → ℕ × ℕ) where
  -- before the pass
  pub absorbs_none : (es : List Entry) → ((u : List ℕ) → now u ≡ old u) → ((u : List ℕ) → look es u ≡ other u)
      → IsDistinct (pointwise nat_eq) (map (λ e. e.0) es) → IsAbsorbed now es old other
  absorbs_none es same is apart = record { sums = λ u. rw (same u, is u) refl; apart = apart }

  -- there is room for the entry that comes first
  pub absorbs_fit : (rest : List Entry) (t : List ℕ) (v : ℕ × ℕ) (es : List Entry) → rest ≡ (t, v) ∷ es → IsAbsorbed now rest old other
      → FitTogether (old t) (other t) → FitTogether (now t) v
  absorbs_fit rest t v es is absorbed fits =
      let e : summed (now t) v ≡ summed (old t) (other t) =
      ap (summed (now t)) (sym (look_first t v es)) ∙ ap (λ r. summed (now t) (look r t)) (sym is) ∙ absorbed.sums t in
      (subst (λ n. n < 2 ^ 128) (sym (ap (λ k. k.0) e)) fits.0, subst (λ n. n < 2 ^ 128) (sym (ap (λ k. k.1) e)) fits.1)

  -- one entry more
  pub absorbs_more : (rest : List Entry) (t : List ℕ) (v : ℕ × ℕ) (es : List Entry) (new : List ℕ → ℕ × ℕ) → rest ≡ (t, v) ∷ es
      → IsAbsorbed now rest old other → ((u : List ℕ) → new u ≡ summed (now u) (both_hits t v u)) → IsAbsorbed new es old other
  absorbs_more rest t v es new is absorbed added =
      let apart = subst (λ r. IsDistinct (pointwise nat_eq) (map (λ e. e.0) r)) is absorbed.apart in record {
        sums = λ u. ap (λ k. summed k (look es u)) (added u) ∙ look_more t v (now u) es u (IsDistinct-head (pointwise nat_eq) t (map (λ e. e.0) es) apart)
            ∙ ap (λ r. summed (now u) (look r u)) (sym is) ∙ absorbed.sums u;
        apart = IsDistinct-tail (pointwise nat_eq) t (map (λ e. e.0) es) apart;
      }

  -- behind the pass
  pub absorbs_all : (rest : List Entry) → rest ≡ [] → IsAbsorbed now rest old other → (u : List ℕ) → now u ≡ summed (old u) (other u)
  absorbs_all rest none absorbed u =
      sym (summed_zero (now u)) ∙ ap (λ r. summed (now u) (look r u)) (sym none) ∙ absorbed.sums u

  -- what neither has, it has not
  pub absorbs_nothing : (rest : List Entry) → IsAbsorbed now rest old other → (u : List ℕ) → old u ≡ (0, 0) → other u ≡ (0, 0) → now u ≡ (0, 0)
  absorbs_nothing rest absorbed u none others =
      let e : summed (now u) (look rest u) ≡ (0, 0) = absorbed.sums u ∙ ap₂ summed none others in
      let first : (now u).0 ≡ 0 = let h = ap (λ k. k.0) e in omega (arith, h) in
      let second : (now u).1 ≡ 0 = let h = ap (λ k. k.1) e in omega (arith, h) in
      λ i. (first i, second i)

  pub absorbs_nothing_still : (rest : List Entry) (new : List ℕ → ℕ × ℕ) → IsAbsorbed now rest old other → ((u : List ℕ) → new u ≡ now u)
      → (u : List ℕ) → old u ≡ (0, 0) → other u ≡ (0, 0) → new u ≡ (0, 0)
  absorbs_nothing_still rest new absorbed same u none others = same u ∙ absorbs_nothing rest absorbed u none others
