-- Both counts of a tuple behind one more.
use Rattle.std.proofs.Common.{◌≡◌, ℕ, ◌+◌, true, false, cond, List, ◌≤◌, Some, Result, Ok, Err, OnOk, nat_eq, unwrap_or, refl, sym, ap, ◌∙◌, arith, add-zero}
use Rattle.std.specs.HashMap.{HashMap, get}
use lib.Pointwise.{bytes_decides, pointwise}
use Rattle.bus_kit.specs.Counting.{both_in, more_on, on_side, IsAdded}
use Rattle.buses.specs.Counts.{hits}
use Rattle.bus_kit.specs.declared.count.Side.{Side}
use Rattle.bus_kit.specs.declared.count.Side.TheVariants.{Asked, Given}

-- no more than before
pub more_on_zero : (side : Side) (both : ℕ × ℕ) → more_on side 0 both ≡ both
more_on_zero Asked both = λ i. (add-zero both.0 i, both.1)
more_on_zero Given both = λ i. (both.0, add-zero both.1 i)

pub added_at : {S : Type 0} (m n : HashMap (List ℕ) (ℕ × ℕ) S) (side : Side) (t : List ℕ) (count : ℕ) (v : ℕ × ℕ) (u : List ℕ)
    → get (pointwise nat_eq) n u ≡ cond (pointwise nat_eq t u) (Some v) (get (pointwise nat_eq) m u)
    → v ≡ more_on side count (both_in m t)
    → both_in n u ≡ more_on side (hits t count u) (both_in m u)
added_at m n side t count v u at is =
    elim (pointwise nat_eq t u) as (λ b. pointwise nat_eq t u ≡ b
    → get (pointwise nat_eq) n u ≡ cond b (Some v) (get (pointwise nat_eq) m u)
    → both_in n u ≡ more_on side (cond b count 0) (both_in m u)) [
      | true ↦ λ same got. ap (λ o. unwrap_or o (0, 0)) got ∙ is ∙ ap (λ k. more_on side count (both_in m k)) ((bytes_decides t u).0 same)
      | false ↦ λ apart got. ap (λ o. unwrap_or o (0, 0)) got ∙ sym (more_on_zero side (both_in m u))
    ] refl at

pub hits_zero : (t u : List ℕ) (count : ℕ) → count ≡ 0 → hits t count u ≡ 0
hits_zero t u count none = elim (pointwise nat_eq t u) as (λ b. cond b count 0 ≡ 0) [ true ↦ none | false ↦ refl ]

-- the other side
abbrev pub other_side : Side → Side
other_side Asked = Given
other_side Given = Asked

on_same : (side : Side) (n : ℕ) (both : ℕ × ℕ) → on_side side (more_on side n both) ≡ on_side side both + n
on_same Asked n both = refl
on_same Given n both = refl

on_other : (side : Side) (n : ℕ) (both : ℕ × ℕ) → on_side (other_side side) (more_on side n both) ≡ on_side (other_side side) both
on_other Asked n both = refl
on_other Given n both = refl

hits_few : (t u : List ℕ) (count : ℕ) → hits t count u ≤ count
hits_few t u count = elim (pointwise nat_eq t u) as (λ b. cond b count 0 ≤ count) [ true ↦ omega arith | false ↦ omega arith ]

-- What each count becomes where a tuple was counted on one side, and what holds where memory was refused.
module _ {E : Type 0} (side : Side) (t : List ℕ) (count : ℕ) (b k : List ℕ → ℕ × ℕ) where
  pub counted : (r : Result (Unit {0}) E) → IsAdded side t count b k r
      → OnOk r ((u : List ℕ) → on_side side (k u) ≡ on_side side (b u) + hits t count u)
  counted (Ok x) added = λ u. ap (on_side side) (added u) ∙ on_same side (hits t count u) (b u)
  counted (Err x) added = tt

  pub counted_other : (r : Result (Unit {0}) E) → IsAdded side t count b k r
      → OnOk r ((u : List ℕ) → on_side (other_side side) (k u) ≡ on_side (other_side side) (b u))
  counted_other (Ok x) added = λ u. ap (on_side (other_side side)) (added u) ∙ on_other side (hits t count u) (b u)
  counted_other (Err x) added = tt

  pub counted_few : (r : Result (Unit {0}) E) → IsAdded side t count b k r → OnOk r ((u : List ℕ) → on_side side (k u) ≤ on_side side (b u) + count)
  counted_few (Ok x) added = λ u. let same = counted (Ok x) added u in let few = hits_few t u count in omega arith
  counted_few (Err x) added = tt
