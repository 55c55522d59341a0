-- Where the groups and the immediates of a batch come from.
use Rattle.sound_buses.proofs.Words.{◌≡◌, ℕ, suc, ◌<◌, ◌-◌, inl, inr, true, List, [], ◌∷◌, length, slice_index, refl, sym, ap, subst, arith, once, is_start_op}
use Rattle.sound_buses.proofs.Words.{gc, ha, is_op, is_batch_op, domain_of, eight, groups_asked, groups_given, positions, Claim, row_at, ShowsRows, op_in}
use Rattle.std.proofs.lemmas.Bool.{or_cases}
use Rattle.sound_buses.proofs.Words.ops
use Rattle.sound_buses.specs.Batches.{Begins, GroupFacts, IsTaken, batch_at}
use Rattle.sound_buses.proofs.GroupPlaces.{IsPlace, gives}
use Rattle.sound_buses.proofs.HasherBus.{Asks, respan_in, start_in}
use Rattle.sound_buses.proofs.RowSums.{Balanced, IsInRow, giver, row_has}
use Rattle.sound_buses.proofs.Splits.{not_op, op_from}

module _ (rows : List (List ℕ)) (alike : Balanced groups_asked groups_given rows) where
  taken : {r element : ℕ} → suc r < length rows
      → groups_asked (row_at rows r) (row_at rows (suc r)) ≡ once (ha (row_at rows r) ∷ gc (row_at rows r) ∷ element ∷ []) ∷ []
      → IsTaken rows r element
  taken {r} {element} within asks =
      let left = ap (λ xs. slice_index xs 1) place.is in
      record {
        batch = found.0;
        begins = record { within = found.1.within; is = given.0 };
        same = ap (λ xs. slice_index xs 0) place.is;
        place = place.place;
        behind = omega (arith, place.behind);
        in_use = omega (arith, place.behind, place.within);
        left = omega (arith, left, place.count, place.behind, place.within);
        is = sym (ap (λ xs. slice_index xs 2) place.is);
      }
    where
      u : List ℕ
      u = ha (row_at rows r) ∷ gc (row_at rows r) ∷ element ∷ []

      found : (i : ℕ) × IsInRow groups_given rows u i
      found = giver alike (row_has [] within asks)

      given : (is_batch_op (op_in rows found.0) ≡ true) × IsPlace (row_at rows found.0) (row_at rows (suc found.0)) 1 (positions (row_at rows found.0) - 1) u
      given = gives (row_at rows found.0) (row_at rows (suc found.0)) u found.1.positive

      place : IsPlace (row_at rows found.0) (row_at rows (suc found.0)) 1 (positions (row_at rows found.0) - 1) u
      place = given.1

  module _ (k : Claim) (shows : ShowsRows k rows)
      (one_asker : (i k tag other address : ℕ) (xs ys : List ℕ) → Asks rows i (tag ∷ address ∷ xs) → Asks rows k (other ∷ address ∷ ys) → i ≡ k) where
    -- each of the two kinds of batches asks the hasher for its elements
    batch_asks : (i : ℕ) → Begins rows i → (tag : ℕ) × (rest : List ℕ) × Asks rows i (tag ∷ batch_at rows i ∷ rest)
    batch_asks i at =
        let batch = (shows.pair_is i at.within).pair.batch in
        elim (or_cases (is_op (op_in rows i) ops.Span) (is_op (op_in rows i) ops.Respan) at.is) [
          | inl is ↦ (
            1,
            domain_of (op_in rows i) ∷ eight (row_at rows i),
            subst (λ n. Asks rows i (1 ∷ n ∷ domain_of (op_in rows i) ∷ eight (row_at rows i))) (sym (batch.first is))
                (start_in i (record { within = at.within; is = ap is_start_op (op_from {other = ops.Span} is) })),
          )
          | inr is ↦ (
            2,
            eight (row_at rows i),
            subst (λ n. Asks rows i (2 ∷ n ∷ eight (row_at rows i))) (sym (batch.later is)) (respan_in i (record { within = at.within; is = op_from is })),
          )
        ]

    pub group_facts : GroupFacts rows
    unfolding groups_asked
    group_facts = record {
      immediate = λ r at. taken at.within (rw at.is refl);
      group = λ r within is apart. taken within (rw (not_op (op_in rows r) ops.Push apart, is) refl);
      one = λ i k here there e.
          let a = batch_asks i here in
          let b = batch_asks k there in one_asker i k a.0 b.0 (batch_at rows k) a.1 b.1 (subst (λ n. Asks rows i (a.0 ∷ n ∷ a.1)) e a.2) b.2;
    }
