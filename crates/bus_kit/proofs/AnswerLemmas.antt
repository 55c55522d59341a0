-- The answer over all widths, from those over each.
use Rattle.std.proofs.Common.{◌≡◌, ℕ, ◌==◌, true, false, cond, nat_cmp, Less, List, length, Option, Some, None, IfSome, refl, sym, ap, ◌∙◌}
use Rattle.std.specs.Ordering.{is_lt}
use Rattle.std.specs.Cmp.Lexicographic.{slice_cmp}
use Rattle.std.proofs.lemmas.Cmp.{nat_list_cmp_total}
use Rattle.std.proofs.lemmas.Bool.{eqb-true, eq-eqb}
use Rattle.buses.specs.Counts.{IsLeastApart}
use Rattle.bus_kit.specs.Scanning.{IsAnswerOf, lesser_told}
use Rattle.bus_kit.specs.Tallies.{at_width}
use Rattle.bus_kit.specs.declared.tuple.Unequal.{Unequal}
use Rattle.bus_kit.proofs.ScanLemmas.{less_from_is_lt, less_than_rest}

-- an answer over the counts of one width
abbrev pub IsAnswerAt : ℕ → (List ℕ → ℕ × ℕ) → Option Unequal → Type 0
IsAnswerAt width counts r = IsAnswerOf counts r × IfSome r (λ x. length x.tuple ≡ width)

alike_at : (width : ℕ) (f h : List ℕ → ℕ × ℕ) (u : List ℕ) → (f u).0 ≡ (f u).1 → (h u).0 ≡ (h u).1
    → (at_width width f h u).0 ≡ (at_width width f h u).1
alike_at width f h u p q = elim (length u == width) as (λ b. (cond b (f u) (h u)).0 ≡ (cond b (f u) (h u)).1) [ true ↦ p | false ↦ q ]

least_here : (width : ℕ) (f h : List ℕ → ℕ × ℕ) (x : Unequal) → IsLeastApart (λ u. (f u).0) (λ u. (f u).1) x.tuple x.asked x.given
    → length x.tuple ≡ width
    → ((u : List ℕ) → slice_cmp nat_cmp u x.tuple ≡ Less → (h u).0 ≡ (h u).1)
    → IsLeastApart (λ u. (at_width width f h u).0) (λ u. (at_width width f h u).1) x.tuple x.asked x.given
least_here width f h x is wide rest =
    let here : at_width width f h x.tuple ≡ f x.tuple = rw (eq-eqb (length x.tuple) width wide) refl in
    record {
      asked_is = is.asked_is ∙ ap (λ k. k.0) (sym here);
      given_is = is.given_is ∙ ap (λ k. k.1) (sym here);
      apart = is.apart;
      least = λ u less. alike_at width f h u (is.least u less) (rest u less);
    }

least_there : (width : ℕ) (f h : List ℕ → ℕ × ℕ) (y : Unequal) → IsLeastApart (λ u. (h u).0) (λ u. (h u).1) y.tuple y.asked y.given
    → ((u : List ℕ) → length u ≡ width → h u ≡ (0, 0)) → ((u : List ℕ) → slice_cmp nat_cmp u y.tuple ≡ Less → (f u).0 ≡ (f u).1)
    → IsLeastApart (λ u. (at_width width f h u).0) (λ u. (at_width width f h u).1) y.tuple y.asked y.given
least_there width f h y is none rest =
    let there : at_width width f h y.tuple ≡ h y.tuple =
    elim (length y.tuple == width) as (λ b. (length y.tuple == width) ≡ b → cond b (f y.tuple) (h y.tuple) ≡ h y.tuple) [
      | true ↦ λ e. let zero =
          none y.tuple (eqb-true (length y.tuple) width e) in absurd
          (is.apart (is.asked_is ∙ ap (λ k. k.0) zero ∙ sym (is.given_is ∙ ap (λ k. k.1) zero)))
      | false ↦ λ _. refl
    ] refl in
    record {
      asked_is = is.asked_is ∙ ap (λ k. k.0) (sym there);
      given_is = is.given_is ∙ ap (λ k. k.1) (sym there);
      apart = is.apart;
      least = λ u less. alike_at width f h u (rest u less) (is.least u less);
    }

-- the lesser of the answer over one width and of that over others is the answer over both
pub answer_at : (width : ℕ) (f h : List ℕ → ℕ × ℕ) (x y : Option Unequal) → IsAnswerAt width f x → IsAnswerOf h y
    → ((u : List ℕ) → length u ≡ width → h u ≡ (0, 0)) → IsAnswerOf (at_width width f h) (lesser_told x y)
answer_at width f h None None p q none = λ u. alike_at width f h u (p.0 u) (q u)
answer_at width f h None (Some y) p q none = least_there width f h y q none (λ u _. p.0 u)
answer_at width f h (Some x) None p q none = least_here width f h x p.0 p.1 (λ u _. q u)
answer_at width f h (Some x) (Some y) p q none =
    elim (is_lt (slice_cmp nat_cmp y.tuple x.tuple)) as
    (λ b. is_lt (slice_cmp nat_cmp y.tuple x.tuple) ≡ b → IsAnswerOf (at_width width f h) (cond b (Some y) (Some x))) [
      | true ↦
          λ e. least_there width f h y q none
          (λ u less. p.0.least u (nat_list_cmp_total.trans u y.tuple x.tuple less
          (less_from_is_lt (slice_cmp nat_cmp y.tuple x.tuple) e)))
      | false ↦ λ e. least_here width f h x p.0 p.1 (λ u less. q.least u (less_than_rest nat_list_cmp_total u y.tuple x.tuple less e))
    ] refl

-- the same of a value that is the lesser
pub answer_step : (width : ℕ) (f h : List ℕ → ℕ × ℕ) (x y z : Option Unequal) → z ≡ lesser_told x y → IsAnswerAt width f x → IsAnswerOf h y
    → ((u : List ℕ) → length u ≡ width → h u ≡ (0, 0)) → IsAnswerOf (at_width width f h) z
answer_step width f h x y z is p q none = rw is (answer_at width f h x y p q none)

-- the answer over one width is that over it and no other
pub answer_last : (width : ℕ) (f : List ℕ → ℕ × ℕ) (x : Option Unequal) → IsAnswerAt width f x → IsAnswerOf (at_width width f (λ _. (0, 0))) x
answer_last width f None p = answer_at width f (λ _. (0, 0)) None None p (λ u. refl) (λ u e. refl)
answer_last width f (Some x) p = answer_at width f (λ _. (0, 0)) (Some x) None p (λ u. refl) (λ u e. refl)
