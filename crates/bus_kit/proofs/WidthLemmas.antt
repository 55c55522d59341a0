-- The counts of all steps, from those of each width.
use Rattle.std.proofs.Common.{◌≡◌, ◌≢◌, ℕ, ◌==◌, Bool, true, false, cond, nat_eq, List, length, Result, Ok, Err, refl, sym, ap, ap₂, ◌∙◌}
use Rattle.std.specs.Cmp.Lexicographic.{unequal}
use Rattle.std.proofs.lemmas.Bool.{eqb-true, eqb-false}
use Rattle.bus_kit.specs.Counting.{both_hits, more_on, summed, IsAdded}
use Rattle.buses.specs.Counts.{hits}
use Rattle.bus_kit.specs.Tallies.{steps_tallied}
use Rattle.bus_kit.specs.Widths.{tallied}
use Rattle.bus_kit.specs.declared.count.Side.{Side}
use Rattle.bus_kit.specs.declared.hasher.StepTally.{StepTally}
use Rattle.bus_kit.specs.declared.tally.Tally.{Tally}
use Rattle.bus_kit.proofs.PairLemmas.{more_on_zero}

-- a tuple of another width is not hit
hits_other : (t u : List ℕ) (count : ℕ) → (length t ≢ length u) → hits t count u ≡ 0
hits_other t u count h = rw (unequal nat_eq t u h) refl

-- what is added at a tuple of one width leaves those of the others uncounted
pub none_added : (side : Side) (t u : List ℕ) (count width : ℕ) (old new : ℕ × ℕ) → length t ≡ width → length u ≢ width → old ≡ (0, 0)
    → new ≡ more_on side (hits t count u) old → new ≡ (0, 0)
none_added side t u count width old new wide apart none is =
    is ∙ ap (λ n. more_on side n old) (hits_other t u count (λ same. apart (sym same ∙ wide))) ∙ more_on_zero side old ∙ none

pub none_absorbed : (t u : List ℕ) (more : ℕ × ℕ) (width : ℕ) (old new : ℕ × ℕ) → length t ≡ width → length u ≢ width → old ≡ (0, 0)
    → new ≡ summed old (both_hits t more u) → new ≡ (0, 0)
none_absorbed t u more width old new wide apart none is =
    is ∙ ap₂ summed none (ap (λ b. cond b more (0, 0)) (unequal nat_eq t u (λ same. apart (sym same ∙ wide))))

-- What is added to the counts of one width is added to those of all: f and g are the counts of the tuple's width before and behind, a and b those of all.
pub added_in_width : {E : Type 0} (side : Side) (t : List ℕ) (count width : ℕ) (f g a b : List ℕ → ℕ × ℕ) (r : Result (Unit {0}) E) → length t ≡ width
    → ((u : List ℕ) → length u ≡ width → a u ≡ f u) → ((u : List ℕ) → length u ≡ width → b u ≡ g u)
    → ((u : List ℕ) → (length u == width) ≡ false → b u ≡ a u)
    → IsAdded side t count f g r → IsAdded side t count a b r
added_in_width side t count width f g a b (Ok x) wide before behind others added = λ u.
    elim (length u == width) as (λ w. (length u == width) ≡ w → b u ≡ more_on side (hits t count u) (a u)) [
      | true ↦ λ e. let same = eqb-true (length u) width e in behind u same ∙ added u ∙ ap (more_on side (hits t count u)) (sym (before u same))
      | false ↦ λ e. others u e ∙ sym (rw (hits_other t u count (λ same. eqb-false (length u) width e (sym same ∙ wide))) (more_on_zero side (a u)))
    ] refl
added_in_width side t count width f g a b (Err x) wide before behind others added = (
  before t wide ∙ added.0,
  λ u.
      elim (length u == width) as (λ w. (length u == width) ≡ w → b u ≡ a u) [
        | true ↦ λ e. let same = eqb-true (length u) width e in behind u same ∙ added.1 u ∙ sym (before u same)
        | false ↦ λ e. others u e
      ] refl,
)

-- The counts of each width: what the tally has at it, and that what is added to them is added to the tally.
pub at_six : (t : StepTally) (u : List ℕ) → length u ≡ 6 → steps_tallied t u ≡ tallied t.ends u
unfolding steps_tallied
at_six t u e = rw e refl

pub in_six : {E : Type 0} (side : Side) (u : List ℕ) (count : ℕ) (t : StepTally) (now : Tally 6) (r : Result (Unit {0}) E) → length u ≡ 6
    → IsAdded side u count (tallied t.ends) (tallied now) r → IsAdded side u count (steps_tallied t) (steps_tallied (record t { ends = now })) r
unfolding steps_tallied
in_six side u count t now r e =
    added_in_width side u count 6 (tallied t.ends) (tallied now) _ _ r e (at_six t) (at_six (record t { ends = now }))
    (λ v apart. rw apart refl)

pub at_ten : (t : StepTally) (u : List ℕ) → length u ≡ 10 → steps_tallied t u ≡ tallied t.batches u
unfolding steps_tallied
at_ten t u e = rw e refl

pub in_ten : {E : Type 0} (side : Side) (u : List ℕ) (count : ℕ) (t : StepTally) (now : Tally 10) (r : Result (Unit {0}) E) → length u ≡ 10
    → IsAdded side u count (tallied t.batches) (tallied now) r → IsAdded side u count (steps_tallied t) (steps_tallied (record t { batches = now })) r
unfolding steps_tallied
in_ten side u count t now r e =
    added_in_width side u count 10 (tallied t.batches) (tallied now) _ _ r e (at_ten t) (at_ten (record t { batches = now }))
    (λ v apart. rw apart refl)

pub at_eleven : (t : StepTally) (u : List ℕ) → length u ≡ 11 → steps_tallied t u ≡ tallied t.starts u
unfolding steps_tallied
at_eleven t u e = rw e refl

pub in_eleven : {E : Type 0} (side : Side) (u : List ℕ) (count : ℕ) (t : StepTally) (now : Tally 11) (r : Result (Unit {0}) E) → length u ≡ 11
    → IsAdded side u count (tallied t.starts) (tallied now) r → IsAdded side u count (steps_tallied t) (steps_tallied (record t { starts = now })) r
unfolding steps_tallied
in_eleven side u count t now r e =
    added_in_width side u count 11 (tallied t.starts) (tallied now) _ _ r e (at_eleven t) (at_eleven (record t { starts = now }))
    (λ v apart. rw apart refl)

pub at_fourteen : (t : StepTally) (u : List ℕ) → length u ≡ 14 → steps_tallied t u ≡ tallied t.states u
unfolding steps_tallied
at_fourteen t u e = rw e refl

pub in_fourteen : {E : Type 0} (side : Side) (u : List ℕ) (count : ℕ) (t : StepTally) (now : Tally 14) (r : Result (Unit {0}) E) → length u ≡ 14
    → IsAdded side u count (tallied t.states) (tallied now) r → IsAdded side u count (steps_tallied t) (steps_tallied (record t { states = now })) r
unfolding steps_tallied
in_fourteen side u count t now r e =
    added_in_width side u count 14 (tallied t.states) (tallied now) _ _ r e (at_fourteen t) (at_fourteen (record t { states = now }))
    (λ v apart. rw apart refl)

pick : (b : Bool) (x y z : ℕ × ℕ) → x ≡ z → y ≡ z → cond b x y ≡ z
pick true x y z p q = p
pick false x y z p q = q

-- where no width has a count, no step has one
pub none_at : (t : StepTally) → ((u : List ℕ) → tallied t.ends u ≡ (0, 0)) → ((u : List ℕ) → tallied t.batches u ≡ (0, 0))
    → ((u : List ℕ) → tallied t.starts u ≡ (0, 0)) → ((u : List ℕ) → tallied t.states u ≡ (0, 0)) → (u : List ℕ) → steps_tallied t u ≡ (0, 0)
unfolding steps_tallied
none_at t h6 h10 h11 h14 u =
    pick (length u == 6) _ _ _ (h6 u)
    (pick (length u == 10) _ _ _ (h10 u) (pick (length u == 11) _ _ _ (h11 u) (pick (length u == 14) _ _ _ (h14 u) refl)))
