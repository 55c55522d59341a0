-- What the rows of permutations mean by their tuples: computations at addresses.
use Rattle.std.proofs.Common.{Bool, List, None, Option, Some, [], ap, ap₂, arith, drop, false, if◌then◌else◌, inl, inr, length, refl, slice_index, subst, suc, sym, true, zero, ℕ, ◌%◌, ◌&&◌, ◌+◌, ◌-◌, ◌==◌, ◌∙◌, ◌∷◌, ◌≡◌, ◌≤◌}
use Rattle.std.proofs.lemmas.Bool.{cases_Bool, eq-eqb, eqb-true}
use Rattle.vm_ops.specs.Values.{bit_of}
use Rattle.vm_field.specs.Limits.{number_of_constants}
use Rattle.vm_field.specs.Sponge.{HashInput}
use Rattle.vm_field.proofs.PermutationLemmas.{rounds-none}
use Rattle.chip_columns.specs.HasherColumns.{state}
use Rattle.air_kit.specs.declared.requests.Perm.{Perm}
use Rattle.air_kit.specs.Hashes.{blocks_from, computation_from, computation_at}
use Rattle.facts_hasher.specs.PermRows.{perm_row, rows_before, rows_of_perms}
use Rattle.facts_hasher.proofs.MeaningLemmas.{ComputesAt, blocks_in, further, here, input_of}
use Rattle.facts_hasher.proofs.RowLemmas.{OfStates, bit_again, first_state, later_states}
use Rattle.facts_hasher.proofs.RowsAreZero.{first_shows}
use Rattle.facts_hasher.proofs.Totals.{eight}

-- a computation where both flags are 0
abbrev found_by : Bool → Bool → HashInput → Option HashInput
found_by m c input = if (bit_of m == 0) && (bit_of c == 0) then Some input else None

opens_where : (m c : Bool) (found input : HashInput) → found_by m c found ≡ Some input → (m ≡ false) × (c ≡ false) × (found ≡ input)
opens_where true c found input e = absurd (cc)
opens_where false true found input e = absurd (cc)
opens_where false false found input e = (refl, refl, cc)

drop_none : (n : ℕ) → ◌≡◌ {A = List (List ℕ)} (drop n []) []
drop_none zero = refl
drop_none (suc n) = refl

module _ (constants : List ℕ) (len : length constants ≡ number_of_constants) where
  blocks_same : (perms : List Perm) → OfStates perms → blocks_from (rows_of_perms constants perms) ≡ blocks_in perms
  unfolding rows_of_perms rows_before perm_row state blocks_from blocks_in
  blocks_same [] s = refl
  blocks_same (p ∷ perms) s =
      ap₂ (λ (b : List ℕ) (bs : List (List ℕ)). b ∷ bs) (ap (drop 4) (first_shows constants len p (first_state p perms s)))
      (ap₂ (λ (b : Bool) (bs : List (List ℕ)). if b then bs else []) (bit_again p.more) (blocks_same perms (later_states p perms s)))

  first_is : (p : Perm) (rest : List Perm) → OfStates (p ∷ rest)
      → computation_from (rows_of_perms constants (p ∷ rest)) ≡ found_by p.mode p.cont (input_of p rest)
  unfolding rows_of_perms rows_before perm_row
  first_is p rest s =
      ap₂ (λ (n : ℕ) (bs : List (List ℕ)). found_by p.mode p.cont (record { domain = n; blocks = bs }))
      (ap (λ s. slice_index s 1) (rounds-none constants p.start)) (blocks_same (p ∷ rest) s)

  -- where one begins, the rows show it
  found_from : {a : ℕ} {perms : List Perm} {b : ℕ} {input : HashInput} → a % 8 ≡ 1 → OfStates perms → ComputesAt a perms b input
      → (a ≤ b) × (b % 8 ≡ 1) × (computation_from (drop (b - a) (rows_of_perms constants perms)) ≡ Some input)
  unfolding rows_of_perms rows_before
  found_from start s (here {a = a} {p = p} {rest = rest} m c) =
      let none : a - a ≡ 0 = omega arith in (
        omega arith,
        start,
        ap (λ n. computation_from (drop n (rows_of_perms constants (p ∷ rest)))) none ∙ first_is p rest s
            ∙ ap₂ (λ m c. found_by m c (input_of p rest)) m c,
      )
  found_from start s (further {a = a} {p = p} {rest = rest} {b = b} at) =
      let f = found_from (omega (arith, start)) (later_states p rest s) at in
      let le = f.0 in
      let e : b - a ≡ eight (b - (a + 8)) = omega (arith, le) in
      (omega (arith, le), f.1, ap (λ n. computation_from (drop n (rows_of_perms constants (p ∷ rest)))) e ∙ f.2)

  pub found_computes : {perms : List Perm} {b : ℕ} {input : HashInput} → OfStates perms → ComputesAt 1 perms b input
      → computation_at (rows_of_perms constants perms) b ≡ Some input
  found_computes {perms} {b} s at =
      let f = found_from refl s at in
      ap (λ t. if t then computation_from (drop (b - 1) (rows_of_perms constants perms)) else None) (eq-eqb (b % 8) 1 f.1) ∙ f.2

  -- and where the rows show one, it begins
  computes_from : (a n : ℕ) (perms : List Perm) (input : HashInput) → n % 8 ≡ 0 → OfStates perms
      → computation_from (drop n (rows_of_perms constants perms)) ≡ Some input → ComputesAt a perms (a + n) input
  unfolding rows_of_perms rows_before
  computes_from a n [] input h s e = absurd (let none = ap computation_from (drop_none n) in cc)
  computes_from a zero (p ∷ rest) input h s e =
      let o = opens_where p.mode p.cont (input_of p rest) input (sym (first_is p rest s) ∙ e) in
      let start : a ≡ a + 0 = omega arith in
      subst (λ n. ComputesAt a (p ∷ rest) n input) start (subst (ComputesAt a (p ∷ rest) a) o.2 (here o.0 o.1))
  computes_from a (suc (suc (suc (suc (suc (suc (suc (suc n)))))))) (p ∷ rest) input h s e =
      let place : a + 8 + n ≡ a + eight n = omega arith in
      subst (λ n. ComputesAt a (p ∷ rest) n input) place
      (further (computes_from (a + 8) n rest input (omega (arith, h)) (later_states p rest s) e))
  computes_from a _ (p ∷ rest) input h s e = absurd (omega (arith, h))

  pub computes_at : (perms : List Perm) (b : ℕ) (input : HashInput) → OfStates perms → computation_at (rows_of_perms constants perms) b ≡ Some input
      → ComputesAt 1 perms b input
  computes_at perms b input s e = elim (cases_Bool (b % 8 == 1)) [
    | inl is ↦
        let one = eqb-true (b % 8) 1 is in
        let place : 1 + (b - 1) ≡ b = omega (arith, one) in
        subst (λ n. ComputesAt 1 perms n input) place
        (computes_from 1 (b - 1) perms input (omega (arith, one)) s
        (sym (ap (λ t. if t then computation_from (drop (b - 1) (rows_of_perms constants perms)) else None) is) ∙ e))
    | inr not ↦ absurd (let none = ap (λ t. if t then computation_from (drop (b - 1) (rows_of_perms constants perms)) else None) not in cc)
  ]
