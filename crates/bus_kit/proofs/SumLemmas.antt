-- The sums of two tallies of the same kind, from those of their parts.
use Rattle.std.proofs.Common.{◌≡◌, ℕ, ◌<◌, ◌≤◌, ◌==◌, nat_lt, List, [], ◌∷◌, length, slice_index_or, arith, Result, Ok, Err, OnOk, refl, subst, inl, inr, lit<}
use Rattle.std.proofs.lemmas.Bool.{cases_Bool, eqb-true, ltb-true, ltb-false}
use Rattle.std.proofs.lemmas.List.{get_or_past}
use Rattle.buses.specs.declared.bus.Bus.{Bus}
use Rattle.buses.specs.declared.bus.Bus.TheVariants as bus
use Rattle.bus_kit.specs.ByBus.{both_by}
use Rattle.bus_kit.specs.Counting.{summed, FitTogether}
use Rattle.bus_kit.specs.Singles.{one_at}
use Rattle.bus_kit.specs.Tallies.{at_width, steps_tallied, values_tallied}
use Rattle.bus_kit.specs.Widths.{tallied}
use Rattle.bus_kit.specs.declared.hasher.StepTally.{StepTally}
use Rattle.bus_kit.specs.declared.tallies.Tallies.{Tallies}

-- the counts of one are the sums of those of two others
abbrev pub AreSums : (List ℕ → ℕ × ℕ) → (List ℕ → ℕ × ℕ) → (List ℕ → ℕ × ℕ) → Type 0
AreSums now old other = (u : List ℕ) → now u ≡ summed (old u) (other u)

pub width_summed : (w : ℕ) (a b c ra rb rc : List ℕ → ℕ × ℕ) → ((u : List ℕ) → length u ≡ w → c u ≡ summed (a u) (b u)) → ((u : List ℕ) → rc u ≡ summed (ra u) (rb u))
    → (u : List ℕ) → at_width w c rc u ≡ summed (at_width w a ra u) (at_width w b rb u)
width_summed w a b c ra rb rc here others u = elim (cases_Bool (length u == w)) [
  | inl same ↦ rw same (here u (eqb-true (length u) w same))
  | inr apart ↦ rw apart (others u)
]

-- all steps
pub steps_summed : {E : Type 0} (s t n : StepTally) (r : Result (Unit {0}) E) → AreSums (tallied n.ends) (tallied s.ends) (tallied t.ends)
    → AreSums (tallied n.batches) (tallied s.batches) (tallied t.batches) → AreSums (tallied n.starts) (tallied s.starts) (tallied t.starts)
    → OnOk r (AreSums (tallied n.states) (tallied s.states) (tallied t.states))
    → OnOk r (AreSums (steps_tallied n) (steps_tallied s) (steps_tallied t))
unfolding steps_tallied
steps_summed s t n (Err x) ends batches starts states = tt
steps_summed s t n (Ok x) ends batches starts states =
    width_summed 6 (tallied s.ends) (tallied t.ends) (tallied n.ends) _ _ _ (λ u e. ends u)
    (width_summed 10 (tallied s.batches) (tallied t.batches) (tallied n.batches) _ _ _ (λ u e. batches u)
    (width_summed 11 (tallied s.starts) (tallied t.starts) (tallied n.starts) _ _ _ (λ u e. starts u)
    (width_summed 14 (tallied s.states) (tallied t.states) (tallied n.states) _ _ _ (λ u e. states u) (λ u. refl))))

-- all buses
pub buses_summed : {E : Type 0} (s t n : Tallies) (r : Result (Unit {0}) E) → AreSums (tallied n.blocks) (tallied s.blocks) (tallied t.blocks)
    → AreSums (tallied n.children) (tallied s.children) (tallied t.children) → AreSums (tallied n.loops) (tallied s.loops) (tallied t.loops)
    → AreSums (tallied n.groups) (tallied s.groups) (tallied t.groups) → AreSums (tallied n.overflow) (tallied s.overflow) (tallied t.overflow)
    → AreSums (steps_tallied n.hasher) (steps_tallied s.hasher) (steps_tallied t.hasher)
    → AreSums (tallied n.bitwise) (tallied s.bitwise) (tallied t.bitwise) → AreSums (tallied n.memory) (tallied s.memory) (tallied t.memory)
    → AreSums (values_tallied n.range) (values_tallied s.range) (values_tallied t.range)
    → OnOk r (AreSums (tallied n.kernel) (tallied s.kernel) (tallied t.kernel))
    → OnOk r ((b : Bus) → AreSums (both_by n b) (both_by s b) (both_by t b))
buses_summed s t n (Err x) blocks children loops groups overflow hasher bitwise memory range kernel = tt
buses_summed s t n (Ok x) blocks children loops groups overflow hasher bitwise memory range kernel = all
  where
    all : (b : Bus) → AreSums (both_by n b) (both_by s b) (both_by t b)
    all bus.Blocks = blocks
    all bus.Children = children
    all bus.Loops = loops
    all bus.Groups = groups
    all bus.Overflow = overflow
    all bus.Hasher = hasher
    all bus.Bitwise = bitwise
    all bus.Memory = memory
    all bus.Range = range
    all bus.Kernel = kernel

pub fit_here : (a b x y : ℕ × ℕ) → a ≡ x → b ≡ y → FitTogether a b → FitTogether x y
fit_here a b x y e f h = subst (λ k. FitTogether x k) f (subst (λ k. FitTogether k b) e h)

-- single elements
pub great_fits : (small other : List (ℕ × ℕ)) (great more : List ℕ → ℕ × ℕ) → ((v : ℕ) → v < 65536 → great (v ∷ []) ≡ (0, 0))
    → ((v : ℕ) → v < 65536 → more (v ∷ []) ≡ (0, 0))
    → ((u : List ℕ) → length u ≡ 1 → FitTogether (one_at small great u) (one_at other more u)) → (u : List ℕ) → length u ≡ 1 → FitTogether (great u) (more u)
great_fits small other great more none none' fits [] e = absurd (omega (arith, e))
great_fits small other great more none none' fits (v ∷ []) e = elim (cases_Bool (nat_lt v 65536)) [
  | inl low ↦ rw (none v (ltb-true v 65536 low), none' v (ltb-true v 65536 low)) (lit< tt, lit< tt)
  | inr high ↦ let h = fits (v ∷ []) e in rw high at h
]
great_fits small other great more none none' fits (v ∷ w ∷ us) e = absurd (omega (arith, e))

pub small_fits : (small other : List (ℕ × ℕ)) (great more : List ℕ → ℕ × ℕ) → length small ≤ 65536 → length other ≤ 65536
    → ((u : List ℕ) → length u ≡ 1 → FitTogether (one_at small great u) (one_at other more u)) → (v : ℕ) → FitTogether (slice_index_or small v (0, 0)) (slice_index_or other v (0, 0))
small_fits small other great more few few' fits v = elim (cases_Bool (nat_lt v 65536)) [
  | inl low ↦ let h = fits (v ∷ []) refl in rw low at h
  | inr high ↦
      let above : 65536 ≤ v = ltb-false v 65536 high in
      rw (get_or_past small v (0, 0) (omega (arith, above, few)), get_or_past other v (0, 0) (omega (arith, above, few'))) (lit< tt, lit< tt)
]

pub ones_summed : (small other new : List (ℕ × ℕ)) (great more now : List ℕ → ℕ × ℕ)
    → ((v : ℕ) → slice_index_or new v (0, 0) ≡ summed (slice_index_or small v (0, 0)) (slice_index_or other v (0, 0)))
    → ((u : List ℕ) → now u ≡ summed (great u) (more u)) → (u : List ℕ) → one_at new now u ≡ summed (one_at small great u) (one_at other more u)
ones_summed small other new great more now places map [] = refl
ones_summed small other new great more now places map (v ∷ []) = elim (cases_Bool (nat_lt v 65536)) [
  | inl low ↦ rw low (places v)
  | inr high ↦ rw high (map (v ∷ []))
]
ones_summed small other new great more now places map (v ∷ w ∷ us) = refl

-- what holds of the sums where all went well
pub if_summed : {E : Type 0} (small other new : List (ℕ × ℕ)) (great more now : List ℕ → ℕ × ℕ) (r : Result (Unit {0}) E)
    → ((v : ℕ) → slice_index_or new v (0, 0) ≡ summed (slice_index_or small v (0, 0)) (slice_index_or other v (0, 0)))
    → OnOk r ((u : List ℕ) → now u ≡ summed (great u) (more u)) → OnOk r ((u : List ℕ) → one_at new now u ≡ summed (one_at small great u) (one_at other more u))
if_summed small other new great more now (Ok x) places map = ones_summed small other new great more now places map
if_summed small other new great more now (Err x) places map = tt
