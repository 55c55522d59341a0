-- The facts of all rows of a table, from entries that are 0, and back.
use Rattle.facts_main.proofs.Words.{◌≡◌, ℕ, zero, suc, ◌<◌, ◌⊎◌, inl, inr, List, [], length, Some, None, refl, sym, subst, arith, op_of}
use Rattle.facts_main.proofs.Words.{main_values, Claim, at_number, IsLowClaim, IsFirstRow, MainIsZero, ShowsPair, ShowsRows, op_in, HasOps, ReadsAs, AllZero}
use Rattle.std.proofs.lemmas.Option.{slice_get_within, slice_get-get_or, slice_get_past, get_or_from_slice_get}
use Rattle.std.specs.List.{slice_get}
use Rattle.vm_table.specs.Layout.{IsTable, row_at}
use Rattle.air_kit.specs.Traces.{spot_of}
use Rattle.facts_main.proofs.PartFacts.{parts}
use Rattle.facts_main.proofs.SpotFacts.{AtPlace, main_means, reads_shown}
use Rattle.facts_main.proofs.Zeros.{numbers_zero}

-- the row behind a place is the next one of the table
behind_is : (rows : List (List ℕ)) (i : ℕ) (y : List ℕ) → slice_get rows (suc i) ≡ Some y → row_at rows (suc i) ≡ y
behind_is rows i y e = get_or_from_slice_get rows (suc i) y [] e

behind_at : (rows : List (List ℕ)) (i : ℕ) → suc i < length rows → slice_get rows (suc i) ≡ Some (row_at rows (suc i))
behind_at rows i h = slice_get-get_or rows (suc i) [] h

none_behind : (rows : List (List ℕ)) (i : ℕ) → suc i ≡ length rows → slice_get rows (suc i) ≡ None
none_behind rows i e = slice_get_past rows (suc i) (omega (arith, e))

last_where : (rows : List (List ℕ)) (i : ℕ) → i < length rows → slice_get rows (suc i) ≡ None → suc i ≡ length rows
last_where rows i h none = go within
  where
    within : (suc i < length rows) ⊎ (suc i ≡ length rows)
    within = grind arith

    go : (suc i < length rows) ⊎ (suc i ≡ length rows) → suc i ≡ length rows
    go (inl more) = let some : slice_get rows (suc i) ≡ Some (row_at rows (suc i)) = behind_at rows i more in absurd (let clash : ⊥ = cc in clash)
    go (inr e) = e

reads_behind : (rows : List (List ℕ)) → ((i : ℕ) → i < length rows → ReadsAs (op_in rows i) (row_at rows i)) → (i : ℕ) → i < length rows
    → HasOps (op_in rows i) (spot_of rows i)
reads_behind rows reads i h = record { here = reads i h; behind = next }
  where
    next : (y : List ℕ) → slice_get rows (suc i) ≡ Some y → ReadsAs (op_of y) y
    next y e =
        let F : List ℕ → Type 0 = λ z. ReadsAs (op_of z) z in
        subst F (behind_is rows i y e) (reads (suc i) (slice_get_within rows (suc i) y e))

-- ---- from zeros

module _ (k : Claim) (rows : List (List ℕ)) (z : MainIsZero k rows) where
  spot_zero : (i : ℕ) → i < length rows → AllZero (main_values k (spot_of rows i))
  spot_zero i h = numbers_zero (main_values k (spot_of rows i)) (λ number. z.zero i number h)

  reads_in : (i : ℕ) → i < length rows → ReadsAs (op_in rows i) (row_at rows i)
  reads_in i h = reads_shown k (spot_of rows i) (z.table.below i) ((parts k (spot_of rows i)).shown (spot_zero i h)).0

  at_place : IsLowClaim k → (i : ℕ) → i < length rows → AtPlace k (op_in rows i) (spot_of rows i)
  at_place few i h = (main_means k (op_in rows i) (spot_of rows i) few (reads_behind rows reads_in i h)).shown (spot_zero i h)

pub rows_shown : (k : Claim) (rows : List (List ℕ)) → IsLowClaim k → MainIsZero k rows → ShowsRows k rows
rows_shown k rows few z = record {
  row_is = λ i h.
      (let a = place i h in
      record { reads = reads_in k rows z i h; row = a.spot.row; stack = a.stack.row; limbs = a.limbs.row; dyn = a.dyn });
  pair_is = λ i h.
      (let a = place i (omega (arith, h)) in
      let y = row_at rows (suc i) in
      let e = behind_at rows i h in
      record { pair = a.spot.pair y e; stack = a.stack.pair y e; limbs = a.limbs.pair y e });
  first = λ h. (place 0 h).spot.first refl;
  last = λ i e. (place i (omega (arith, e))).spot.last (none_behind rows i e);
}
  where
    place : (i : ℕ) → i < length rows → AtPlace k (op_in rows i) (spot_of rows i)
    place = at_place k rows z few

-- ---- and back

module _ (k : Claim) (rows : List (List ℕ)) (shows : ShowsRows k rows) where
  pair_behind : (i : ℕ) (y : List ℕ) → slice_get rows (suc i) ≡ Some y → ShowsPair (op_in rows i) (op_of y) (row_at rows i) y
  pair_behind i y e =
      let F : List ℕ → Type 0 = λ z. ShowsPair (op_in rows i) (op_of z) (row_at rows i) z in
      subst F (behind_is rows i y e) (shows.pair_is i (slice_get_within rows (suc i) y e))

  first_where : (i : ℕ) → i < length rows → i ≡ 0 → IsFirstRow k (op_in rows i) (row_at rows i)
  first_where i h e =
      let F : ℕ → Type 0 = λ n. IsFirstRow k (op_in rows n) (row_at rows n) in subst F (sym e) (shows.first (omega (arith, h)))

  place_zero : IsLowClaim k → (i : ℕ) → i < length rows → AllZero (main_values k (spot_of rows i))
  place_zero few i h =
      let x = shows.row_is i h in
      (main_means k (op_in rows i) (spot_of rows i) few (reads_behind rows (λ j g. (shows.row_is j g).reads) i h)).zeros (record {
        spot = record {
          row = x.row;
          pair = λ y e. (pair_behind i y e).pair;
          first = first_where i h;
          last = λ e. shows.last i (last_where rows i h e);
        };
        stack = record { row = x.stack; pair = λ y e. (pair_behind i y e).stack };
        limbs = record { row = x.limbs; pair = λ y e. (pair_behind i y e).limbs };
        dyn = x.dyn;
      })

number_zero : (values : List ℕ) → AllZero values → (number : ℕ) → at_number values number ≡ 0
unfolding at_number
number_zero values zeros zero = refl
number_zero values zeros (suc n) = zeros n

pub rows_zero : (k : Claim) (rows : List (List ℕ)) → IsLowClaim k → IsTable 65 rows → ShowsRows k rows → MainIsZero k rows
rows_zero k rows few table shows = record {
  table = table;
  zero = λ i number h. number_zero (main_values k (spot_of rows i)) (place_zero k rows shows few i h) number;
}
