-- What the rows of permutations give on the hasher's bus.
use Rattle.std.proofs.Common.{Bool, List, [], ap, ap₂, arith, drop, false, if◌then◌else◌, lit<, suc, sym, take, true, ℕ, ◌%◌, ◌+◌, ◌<◌, ◌==◌, ◌∙◌, ◌∷◌, ◌≡◌}
use Rattle.std.proofs.Common.{length, refl}
use Rattle.std.proofs.lemmas.Bool.{ne_eqb}
use Rattle.vm_ops.specs.Values.{bit_of}
use Rattle.vm_field.specs.Limits.{number_of_constants}
use Rattle.buses.specs.Counts.{Counted, counted, once, over_rows, total}
use Rattle.buses.proofs.Counting.{counted-none}
use Rattle.chip_columns.specs.HasherColumns.{state}
use Rattle.rpo_hash.specs.States.{IsState}
use Rattle.air_kit.specs.declared.requests.Perm.{Perm}
use Rattle.air_kit.specs.ChipTuples.{hasher_given, permutation_begins, permutation_ends}
use Rattle.air_kit.specs.Requests.{perm_begins, perm_ends, perms_given}
use Rattle.facts_hasher.specs.PermRows.{perm_row, rows_before, rows_of_perms}
use Rattle.facts_hasher.proofs.BlockLemmas.{given_all, given_eight, given_from}
use Rattle.facts_hasher.proofs.Given.{begins_by, ends_by, given, head_is}
use Rattle.facts_hasher.proofs.RowLemmas.{OfStates, bit_again, first_state, later_states}
use Rattle.facts_hasher.proofs.RowsAreZero.{first_shows, last_shows}
use Rattle.facts_hasher.proofs.Totals.{eight}

-- ---- by the place of a row among its eight

given_at : (i k : ℕ) (row : List ℕ) → i % 8 ≡ 0 → k < 8
    → hasher_given (i + k) row ≡ (if k == 0 then permutation_begins (suc (i + k)) row else if k == 7 then permutation_ends (suc (i + k)) row else [])
unfolding hasher_given
given_at i k row start h =
    let place : (i + k) % 8 ≡ k = omega (arith, start, h) in
    ap (λ m. if m == 0 then permutation_begins (suc (i + k)) row else if m == 7 then permutation_ends (suc (i + k)) row else []) place

given_none : (i k : ℕ) (row : List ℕ) → i % 8 ≡ 0 → 0 < k → k < 7 → hasher_given (i + k) row ≡ []
given_none i k row start low high =
    given_at i k row start (omega (arith, high))
    ∙ ap₂ (λ first last. if first then permutation_begins (suc (i + k)) row else if last then permutation_ends (suc (i + k)) row else [])
    (ne_eqb k 0 (λ e. omega (arith, e, low))) (ne_eqb k 7 (λ e. omega (arith, e, high)))

-- what the last row gives, where its third flag is this bit
abbrev ends_at : Bool → Bool → ℕ → List ℕ → List Counted
ends_at m going a s = if m then once (5 ∷ a ∷ s) ∷ [] else if bit_of going == 0 then once (3 ∷ a ∷ take 4 (drop 4 s)) ∷ [] else []

ends_where : (m going : Bool) (a : ℕ) (s : List ℕ) → ends_at m going a s ≡ ends_by m going a s
ends_where true going a s = refl
ends_where false true a s = refl
ends_where false false a s = refl

module _ (constants : List ℕ) (len : length constants ≡ number_of_constants) where
  first_gives : (i : ℕ) (p : Perm) → i % 8 ≡ 0 → IsState p.start → hasher_given (i + 0) (perm_row constants p 0 false) ≡ perm_begins (suc i) p
  unfolding permutation_begins state perm_row
  first_gives i p start s =
      let address : suc (i + 0) ≡ suc i = omega arith in
      given_at i 0 (perm_row constants p 0 false) start (lit< tt)
      ∙ ap₂ (λ (m c : Bool). begins_by m c (suc (i + 0)) (state (perm_row constants p 0 false))) (bit_again p.mode) (bit_again p.cont)
      ∙ ap₂ (begins_by p.mode p.cont) address (first_shows constants len p s)

  last_gives : (i : ℕ) (p : Perm) → i % 8 ≡ 0 → IsState p.start
      → hasher_given (i + 7) (perm_row constants p 7 p.more) ≡ perm_ends constants (suc i + 7) p
  unfolding permutation_ends state perm_row
  last_gives i p start s =
      let address : suc (i + 7) ≡ suc i + 7 = omega arith in
      given_at i 7 (perm_row constants p 7 p.more) start (lit< tt)
      ∙ ap (λ m. ends_at m p.more (suc (i + 7)) (state (perm_row constants p 7 p.more))) (bit_again p.mode)
      ∙ ends_where p.mode p.more (suc (i + 7)) (state (perm_row constants p 7 p.more))
      ∙ ap₂ (ends_by p.mode p.more) address (last_shows constants len p s)

  given_perms : (i : ℕ) (perms : List Perm) (u : List ℕ) → i % 8 ≡ 0 → OfStates perms
      → given_from hasher_given i (rows_of_perms constants perms) u ≡ given constants (suc i) perms u
  unfolding rows_of_perms rows_before perms_given total
  given_perms i [] u start s = sym (counted-none u)
  given_perms i (p ∷ perms) u start s =
      let address : suc (eight i) ≡ suc i + 8 = omega arith in
      given_eight hasher_given i _ _ _ _ _ _ _ _ (rows_of_perms constants perms) u (λ k row. given_none i k row start)
      ∙ ap₂ (λ m n. m + n) (ap (λ xs. counted xs u) (first_gives i p start (first_state p perms s)))
      (ap₂ (λ m n. m + n) (ap (λ xs. counted xs u) (last_gives i p start (first_state p perms s)))
      (given_perms (eight i) perms u (omega (arith, start)) (later_states p perms s) ∙ ap (λ a. given constants a perms u) address))
      ∙ sym (head_is constants (suc i) p perms u)

  pub rows_give : (perms : List Perm) (u : List ℕ) → OfStates perms
      → over_rows (λ i row next. hasher_given i row) (rows_of_perms constants perms) u ≡ given constants 1 perms u
  rows_give perms u s = given_all hasher_given (rows_of_perms constants perms) u ∙ given_perms 0 perms u refl s
