-- The answer over single elements, where no small one is apart.
use Rattle.std.proofs.Common.{◌≡◌, ◌≢◌, ℕ, ◌<◌, true, false, cond, nat_lt, List, [], ◌∷◌, length, slice_index_or, Option, Some, None, IfSome, refl, ⊎_elim, sym, ap, ◌∙◌, arith}
use Rattle.std.proofs.lemmas.List.{get_or_past}
use Rattle.std.proofs.lemmas.Bool.{ltb-true, cases_lt}
use Rattle.bus_kit.specs.Scanning.{IsAnswerOf}
use Rattle.bus_kit.specs.Singles.{one_at, AreAlikeBelow}
use Rattle.bus_kit.specs.declared.tuple.Unequal.{Unequal}

-- a tuple of one element is that of its first
pub single : (t : List ℕ) (x : ℕ) → length t ≡ 1 → slice_index_or t 0 x ∷ [] ≡ t
single [] x e = absurd (omega (arith, e))
single (y ∷ []) x e = refl
single (y ∷ z ∷ t) x e = absurd (omega (arith, e))

-- where all that stand in a list are alike, all are
alike_beyond : (small : List (ℕ × ℕ)) (v : ℕ) → AreAlikeBelow small (length small)
    → (slice_index_or small v (0, 0)).0 ≡ (slice_index_or small v (0, 0)).1
alike_beyond small v h = ⊎_elim (h v) (λ past. rw (get_or_past small v (0, 0) past) refl) (cases_lt v (length small))

-- a tuple whose counts of the others are alike has alike counts
one_alike : (small : List (ℕ × ℕ)) (great : List ℕ → ℕ × ℕ) (u : List ℕ) → AreAlikeBelow small (length small) → ((great u).0 ≡ (great u).1)
    → ((one_at small great u).0 ≡ (one_at small great u).1)
one_alike small great [] h e = refl
one_alike small great (v ∷ []) h e =
    elim (nat_lt v 65536) as (λ b. (cond b (slice_index_or small v (0, 0)) (great (v ∷ []))).0
    ≡ (cond b (slice_index_or small v (0, 0)) (great (v ∷ []))).1) [ true ↦ alike_beyond small v h | false ↦ e ]
one_alike small great (v ∷ w ∷ us) h e = refl

-- a single element that is apart among the others has their counts
one_great : (small : List (ℕ × ℕ)) (great : List ℕ → ℕ × ℕ) (u : List ℕ) → ((v : ℕ) → v < 65536 → great (v ∷ []) ≡ (0, 0)) → length u ≡ 1
    → ((great u).0 ≢ (great u).1) → one_at small great u ≡ great u
one_great small great [] none e apart = cc
one_great small great (v ∷ []) none e apart =
    elim (nat_lt v 65536) as (λ b. nat_lt v 65536 ≡ b → cond b (slice_index_or small v (0, 0)) (great (v ∷ [])) ≡ great (v ∷ [])) [
      | true ↦ λ below. absurd (apart (ap (λ k. k.0) (none v (ltb-true v 65536 below)) ∙ sym (ap (λ k. k.1) (none v (ltb-true v 65536 below)))))
      | false ↦ λ _. refl
    ] refl
one_great small great (v ∷ w ∷ us) none e apart = absurd (omega arith)

pub singles_answer : (small : List (ℕ × ℕ)) (great : List ℕ → ℕ × ℕ) (r : Option Unequal) → AreAlikeBelow small (length small)
    → ((v : ℕ) → v < 65536 → great (v ∷ []) ≡ (0, 0)) → IsAnswerOf great r → IfSome r (λ x. length x.tuple ≡ 1) → IsAnswerOf (one_at small great) r
singles_answer small great None alike none answer width = λ u. one_alike small great u alike (answer u)
singles_answer small great (Some x) alike none answer width =
    let apart : (great x.tuple).0 ≢ (great x.tuple).1 = λ e. answer.apart (answer.asked_is ∙ e ∙ sym answer.given_is) in
    let same = one_great small great x.tuple none width apart in
    record {
      asked_is = answer.asked_is ∙ ap (λ k. k.0) (sym same);
      given_is = answer.given_is ∙ ap (λ k. k.1) (sym same);
      apart = answer.apart;
      least = λ u h. one_alike small great u alike (answer.least u h);
    }
