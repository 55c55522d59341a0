-- The states that a permutation goes through, one by one.
use Rattle.std.proofs.Common.{◌≡◌, ℕ, zero, suc, ◌+◌, ◌<◌, ◌≤◌, List, [], ◌∷◌, length, get_or, set, inl, inr, arith, refl, sym, ap, subst, ◌∙◌, add-one}
use Rattle.std.proofs.lemmas.Bool.Decides.{eqb_tells}
use Rattle.std.proofs.lemmas.List.{get_or-set_same, get_or-set_other, length-set}
use Rattle.vm_field.specs.Permutation.{permuted, round, round_constants, rounds}
use Rattle.vm_field.proofs.PermutationLemmas.{permuted-is, rounds-last, rounds-none}
use Rattle.perm_memo.specs.RoundStates.{AreRounds, round_states}

-- of eight states, those up to place k are the states of a permutation
abbrev pub AreRoundsTo : List ℕ → List ℕ → List (List ℕ) → ℕ → Type 0
AreRoundsTo constants x states k = (length states ≡ 8) × ((j : ℕ) → j ≤ k → get_or states j [] ≡ rounds j constants x)

pub AreRoundsTo-begun : (constants x : List ℕ) → AreRoundsTo constants x (x ∷ x ∷ x ∷ x ∷ x ∷ x ∷ x ∷ x ∷ []) 0
AreRoundsTo-begun constants x = (refl, first)
  where
    first : (j : ℕ) → j ≤ 0 → get_or (x ∷ x ∷ x ∷ x ∷ x ∷ x ∷ x ∷ x ∷ []) j [] ≡ rounds j constants x
    first j h =
        let none : 0 ≡ j = omega arith in
        subst (λ n. get_or (x ∷ x ∷ x ∷ x ∷ x ∷ x ∷ x ∷ x ∷ []) n [] ≡ rounds n constants x) none (sym (rounds-none constants x))

pub AreRoundsTo-next : (constants x : List ℕ) (states : List (List ℕ)) (k : ℕ) (y : List ℕ) → k < 7 → AreRoundsTo constants x states k
    → y ≡ round (round_constants constants k) (get_or states k []) → AreRoundsTo constants x (set states (k + 1) y) (k + 1)
AreRoundsTo-next constants x states k y below are is = (length-set states (k + 1) y ∙ are.0, at)
  where
    next : y ≡ rounds (k + 1) constants x
    next =
        is ∙ ap (round (round_constants constants k)) (are.1 k (omega arith))
        ∙ sym (rounds-last k constants x) ∙ ap (λ n. rounds n constants x) (sym (add-one k))

    at : (j : ℕ) → j ≤ k + 1 → get_or (set states (k + 1) y) j [] ≡ rounds j constants x
    at j h =
        elim (eqb_tells j (k + 1)) [
          | inl same ↦
              subst (λ n. get_or (set states (k + 1) y) n [] ≡ rounds n constants x) (sym same.1)
              (get_or-set_same states (k + 1) y [] (omega (arith, are.0)) ∙ next)
          | inr other ↦ get_or-set_other states (k + 1) j y [] other.1 ∙ are.1 j (omega (arith, other.1))
        ]

-- eight states are those of a permutation where each is
pub round_states-by_place : (constants x : List ℕ) (states : List (List ℕ)) → length states ≡ 8
    → ((k : ℕ) → k < 8 → get_or states k [] ≡ rounds k constants x) → states ≡ round_states constants x
unfolding round_states
round_states-by_place constants x (a ∷ b ∷ c ∷ d ∷ e ∷ f ∷ g ∷ h ∷ []) len at =
    let at-0 : a ≡ rounds 0 constants x = at 0 (omega arith) in
    let at-1 : b ≡ rounds 1 constants x = at 1 (omega arith) in
    let at-2 : c ≡ rounds 2 constants x = at 2 (omega arith) in
    let at-3 : d ≡ rounds 3 constants x = at 3 (omega arith) in
    let at-4 : e ≡ rounds 4 constants x = at 4 (omega arith) in
    let at-5 : f ≡ rounds 5 constants x = at 5 (omega arith) in
    let at-6 : g ≡ rounds 6 constants x = at 6 (omega arith) in
    let at-7 : h ≡ rounds 7 constants x = at 7 (omega arith) in
    cc
round_states-by_place constants x _ len at = absurd (omega arith)

-- the first is where it begins
pub round_states-first : (constants x : List ℕ) → get_or (round_states constants x) 0 [] ≡ x
unfolding round_states
round_states-first constants x = rounds-none constants x

-- the last is the permutation
pub round_states-last : (constants x : List ℕ) → get_or (round_states constants x) 7 [] ≡ permuted constants x
unfolding round_states
round_states-last constants x = sym (permuted-is constants x)

-- the states of a permutation are so, whichever state it begins with
pub round_states-AreRounds : (constants x : List ℕ) (states : List (List ℕ)) → states ≡ round_states constants x → AreRounds constants states
round_states-AreRounds constants x states e =
    e ∙ ap (round_states constants) (sym (ap (λ s. get_or s 0 []) e ∙ round_states-first constants x))

-- each of them
place : (constants x : List ℕ) (k : ℕ) → k < 8 → get_or (round_states constants x) k [] ≡ rounds k constants x
unfolding round_states
place constants x zero h = refl
place constants x (suc zero) h = refl
place constants x (suc (suc zero)) h = refl
place constants x (suc (suc (suc zero))) h = refl
place constants x (suc (suc (suc (suc zero)))) h = refl
place constants x (suc (suc (suc (suc (suc zero))))) h = refl
place constants x (suc (suc (suc (suc (suc (suc zero)))))) h = refl
place constants x (suc (suc (suc (suc (suc (suc (suc zero))))))) h = refl
place constants x (suc (suc (suc (suc (suc (suc (suc (suc k)))))))) h = absurd (omega (arith, h))

pub round_states-at : (constants x : List ℕ) (states : List (List ℕ)) (k : ℕ) → k < 8 → states ≡ round_states constants x
    → get_or states k [] ≡ rounds k constants x
round_states-at constants x states k h e = ap (λ s. get_or s k []) e ∙ place constants x k h
