-- What the rows ask on the hasher's bus is given, and one row alone asks at an address.
use Rattle.sound_buses.proofs.Words.{◌≡◌, ℕ, suc, ◌+◌, ◌^◌, ◌<◌, ◌≤◌, List, [], ◌∷◌, length, refl, sym, subst, arith, once, felt_add, ha, w, domain_of, eight}
use Rattle.sound_buses.proofs.Words.{front, hash_end, hasher_asked, twelve, TableGives, row_at, op_in, IsAt, Starts, own, HashFacts, hasher_gives}
use Rattle.vm_field.specs.Permutation.{permuted}
use Rattle.sound_buses.proofs.Words.ops
use Rattle.sound_buses.proofs.RowSums.{IsInRow, in_rows, is_given, row_has, row_in, rows_same}
use Rattle.sound_buses.proofs.Tuples.{counts_behind, counts_first}

-- ---- what a row asks, by its operation

abbrev pub Asks : List (List ℕ) → ℕ → List ℕ → Type 0
Asks rows i u = IsInRow hasher_asked rows u i

module _ {rows : List (List ℕ)} where
  pub start_in : (j : ℕ) → Starts rows j → Asks rows j (1 ∷ own rows j ∷ domain_of (op_in rows j) ∷ eight (row_at rows j))
  unfolding hasher_asked
  start_in j at = row_has [] at.within (rw at.is refl)

  pub respan_in : (i : ℕ) → IsAt rows i ops.Respan → Asks rows i (2 ∷ felt_add (ha (row_at rows i)) 8 ∷ eight (row_at rows i))
  unfolding hasher_asked
  respan_in i at = row_has [] at.within (rw at.is refl)

  end_in : (e : ℕ) → IsAt rows e ops.End → Asks rows e (3 ∷ hash_end (row_at rows e) ∷ front (row_at rows e))
  unfolding hasher_asked
  end_in e at = row_has [] at.within (rw at.is refl)

  -- both tuples of HPERM
  perm_before : (i : ℕ) → IsAt rows i ops.HPerm → Asks rows i (4 ∷ w (row_at rows i) 0 ∷ twelve (row_at rows i))
  unfolding hasher_asked
  perm_before i at = row_has (once (5 ∷ felt_add (w (row_at rows i) 0) 7 ∷ twelve (row_at rows (suc i))) ∷ []) at.within (rw at.is refl)

  perm_behind : (i : ℕ) → IsAt rows i ops.HPerm → Asks rows i (5 ∷ felt_add (w (row_at rows i) 0) 7 ∷ twelve (row_at rows (suc i)))
  unfolding hasher_asked
  perm_behind i at =
      let before = once (4 ∷ w (row_at rows i) 0 ∷ twelve (row_at rows i)) in
      let behind = 5 ∷ felt_add (w (row_at rows i) 0) 7 ∷ twelve (row_at rows (suc i)) in
      row_in (before ∷ once behind ∷ []) at.within (rw at.is refl) (counts_behind before (once behind ∷ []) behind (counts_first behind []))

-- ---- what is asked is given

no_wrap : (address rows : ℕ) → address ≤ rows → rows ≤ 2 ^ 22 → felt_add address 7 ≡ address + 7
no_wrap address rows within few = omega arith

module _ (constants : List ℕ) (rows hasher : List (List ℕ)) (table : TableGives constants hasher (hasher_gives hasher))
    (alike : (u : List ℕ) → in_rows hasher_asked rows u ≡ hasher_gives hasher u) where
  asked_given : {i : ℕ} {u : List ℕ} → Asks rows i u → 0 < hasher_gives hasher u
  asked_given at = is_given alike at

  -- two rows that ask at one address are one row
  pub one_asker : (i k tag other address : ℕ) (xs ys : List ℕ) → Asks rows i (tag ∷ address ∷ xs) → Asks rows k (other ∷ address ∷ ys) → i ≡ k
  one_asker i k tag other address xs ys here there =
      let same = table.one tag other address xs ys (asked_given here) (asked_given there) in
      rows_same (omega (arith, alike (tag ∷ address ∷ xs), table.once (tag ∷ address ∷ xs))) here (subst (Asks rows k) (sym same) there)

  permutes_in : length hasher ≤ 2 ^ 22 → (i : ℕ) → IsAt rows i ops.HPerm → twelve (row_at rows (suc i)) ≡ permuted constants (twelve (row_at rows i))
  permutes_in few i at =
      let before = asked_given (perm_before i at) in
      let place = (table.place 4 (w (row_at rows i) 0) (twelve (row_at rows i)) before).1 in
      table.permutes (w (row_at rows i) 0) (twelve (row_at rows i)) (twelve (row_at rows (suc i))) before
      (subst (λ n. 0 < hasher_gives hasher (5 ∷ n ∷ twelve (row_at rows (suc i)))) (no_wrap (w (row_at rows i) 0) (length hasher) place few)
      (asked_given (perm_behind i at)))

  pub hash_facts : length hasher ≤ 2 ^ 22 → HashFacts constants rows hasher
  hash_facts few = record {
    table = table;
    starts = λ j at. asked_given (start_in j at);
    goes_on = λ i at. asked_given (respan_in i at);
    ends = λ e at. asked_given (end_in e at);
    permutes = permutes_in few;
    alone = λ i k tag values at asks. one_asker _ _ _ _ _ _ _ (record { within = asks.0; positive = asks.1 }) (perm_before i at);
  }

  -- blocks have addresses of their own
  pub own_positive : (j : ℕ) → Starts rows j → 0 < own rows j
  own_positive j at = (table.place 1 (own rows j) (domain_of (op_in rows j) ∷ eight (row_at rows j)) (asked_given (start_in j at))).0

  pub own_one : (i j : ℕ) → Starts rows i → Starts rows j → own rows i ≡ own rows j → i ≡ j
  own_one i j here there e =
      one_asker _ _ _ _ _ _ _ (subst (λ n. Asks rows i (1 ∷ n ∷ domain_of (op_in rows i) ∷ eight (row_at rows i))) e (start_in i here)) (start_in j there)
