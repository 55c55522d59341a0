-- A table whose entries are 0 has the rows of the permutations that it shows, and these fit.
use Rattle.std.proofs.Common.{Bool, List, None, Option, Some, [], ap, arith, false, length, lit<, refl, slice_get, subst, suc, sym, take, true, zero, ℕ, ◌+◌, ◌%◌, ◌<◌, ◌==◌, ◌∙◌, ◌∷◌, ◌≡◌, ◌≤◌}
use Rattle.std.proofs.lemmas.Bool.{eqb-true}
use Rattle.std.proofs.lemmas.List.Elements.{All-cons, All-nil}
use Rattle.std.proofs.lemmas.Option.{slice_get-get_or, slice_get_within}
use Rattle.vm_ops.specs.Values.{bit_of}
use Rattle.vm_field.specs.Limits.{number_of_constants}
use Rattle.vm_field.specs.Permutation.{round, rounds, round_constants, permuted}
use Rattle.vm_field.proofs.PermutationLemmas.{length-round_constants, permuted-is, rounds-last, rounds-none}
use Rattle.vm_table.specs.Layout.{IsTable, row_at}
use Rattle.chip_columns.specs.HasherColumns.{mode, cont, more, state}
use Rattle.rpo_hash.specs.States.{IsState}
use Rattle.air_kit.specs.declared.requests.Perm.{Perm}
use Rattle.air_kit.specs.Places.{Claim}
use Rattle.air_kit.specs.HasherValues.{hasher_values, hasher_values_by}
use Rattle.air_kit.specs.Requests.{FollowsOn}
use Rattle.facts_hasher.specs.PermRows.{perm_row, rows_before, rows_of_perms, perm_of, perms_in}
use Rattle.facts_hasher.specs.HashTables.{HasherIsZero}
use Rattle.facts_hasher.proofs.BlockLemmas.{AllZero, ZeroFrom, eight_same, table_rest, zero_from, zero_rest}
use Rattle.facts_hasher.proofs.RowLemmas.{CellsBelow, OfStates, bit_again, bit_is, row_is, state-IsState}
use Rattle.facts_hasher.proofs.Totals.{eight}
use Rattle.facts_hasher.proofs.ZeroLemmas.{Begins, Ends, IsNextRound, LinkedTo, begins, ends, goes_on, values_inside, values_last}

-- ---- a row behind k rounds of a permutation

record Shown (constants : List ℕ) (p : Perm) (k : ℕ) (r : List ℕ) : Type 0 where
  mode_is : mode r ≡ bit_of p.mode
  cont_is : cont r ≡ bit_of p.cont
  state_is : state r ≡ rounds k constants p.start

one_more : {constants : List ℕ} {p : Perm} {k : ℕ} {cur next : List ℕ} → IsNextRound (round_constants constants k) cur next
    → Shown constants p k cur → Shown constants p (suc k) next
one_more {constants} {p} {k} g s = record {
  mode_is = g.mode_same ∙ s.mode_is;
  cont_is = g.cont_same ∙ s.cont_is;
  state_is = g.round_is ∙ ap (round (round_constants constants k)) s.state_is ∙ sym (rounds-last k constants p.start);
}

row_shown : {constants : List ℕ} {p : Perm} {k : ℕ} (going : Bool) {r : List ℕ} → length r ≡ 15 → Shown constants p k r
    → more r ≡ bit_of going → r ≡ perm_row constants p k going
unfolding perm_row
row_shown going {r} len s e = let whole = row_is r len in cc (whole, s.mode_is, s.cont_is, e, s.state_is)

-- ---- eight rows

record BlockShows (constants : List ℕ) (i : ℕ) (first last : List ℕ) (eight_rows : List (List ℕ) → List (List ℕ)) (next : Option (List ℕ)) : Type 0 where
  rows_are : (rows : List (List ℕ)) → eight_rows rows ≡ rows_before constants (perm_of first last) rows
  starts : Begins (i + 0 == 0) first
  stops : Ends last next
  mode_same : mode last ≡ mode first
  behind : state last ≡ permuted constants (state first)

module _ (c : Claim) (len : length c.constants ≡ number_of_constants) (i : ℕ) (start : i % 8 ≡ 0) (all : List (List ℕ)) (enough : 8 ≤ length all)
    (t : IsTable 15 all) (z : ZeroFrom (hasher_values c) i all) where
  inside : (k : ℕ) → k < 7
      → AllZero (hasher_values_by (i + k == 0) (k == 0) true false (round_constants c.constants k) (row_at all k) (Some (row_at all (suc k))))
  inside k h =
      subst AllZero
      (ap (λ next. hasher_values c (record { row = i + k; cur = row_at all k; next = next })) (slice_get-get_or all (suc k) [] (omega arith))
      ∙ values_inside c i k (row_at all k) (Some (row_at all (suc k))) start h)
      (z.at k (omega arith))

  next_row : (k : ℕ) → k < 7 → IsNextRound (round_constants c.constants k) (row_at all k) (row_at all (suc k))
  next_row k h =
      goes_on (i + k == 0) (k == 0) (round_constants c.constants k) (row_at all k) (row_at all (suc k))
      (length-round_constants c.constants k len h) (t.below k) (t.below (suc k)) (inside k h)

  first_row : Begins (i + 0 == 0) (row_at all 0)
  first_row = begins (i + 0 == 0) (round_constants c.constants 0) (row_at all 0) (Some (row_at all 1)) (t.below 0) (inside 0 (lit< tt))

  next_below : (y : List ℕ) → slice_get all 8 ≡ Some y → CellsBelow y
  next_below y e =
      let there = slice_get-get_or all 8 [] (slice_get_within all 8 y e) in
      let same : row_at all 8 ≡ y = cc in subst CellsBelow same (t.below 8)

  last_row : Ends (row_at all 7) (slice_get all 8)
  last_row =
      ends (i + 7 == 0) (round_constants c.constants 7) (row_at all 7) (slice_get all 8) (t.below 7) next_below
      (subst AllZero (values_last c i (row_at all 7) (slice_get all 8) start) (z.at 7 (omega arith)))

  shown : (k : ℕ) → k < 8 → Shown c.constants (perm_of (row_at all 0) (row_at all 7)) k (row_at all k)
  unfolding perm_of
  shown zero h = record {
    mode_is = bit_is (mode (row_at all 0)) first_row.mode_bit;
    cont_is = bit_is (cont (row_at all 0)) first_row.cont_bit;
    state_is = sym (rounds-none c.constants (state (row_at all 0)));
  }
  shown (suc k) h = one_more (next_row k (omega arith)) (shown k (omega arith))

  is_row : (k : ℕ) → k < 7 → row_at all k ≡ perm_row c.constants (perm_of (row_at all 0) (row_at all 7)) k false
  is_row k h = row_shown false (t.wide k (omega arith)) (shown k (omega arith)) (next_row k h).more_none

  block_shows : BlockShows c.constants i (row_at all 0) (row_at all 7)
      (λ rows. row_at all 0 ∷ row_at all 1 ∷ row_at all 2 ∷ row_at all 3 ∷ row_at all 4 ∷ row_at all 5 ∷ row_at all 6 ∷ row_at all 7 ∷ rows) (slice_get all 8)
  unfolding rows_before perm_of
  block_shows = record {
    rows_are = λ rows.
        eight_same (is_row 0 (lit< tt)) (is_row 1 (lit< tt)) (is_row 2 (lit< tt)) (is_row 3 (lit< tt)) (is_row 4 (lit< tt)) (is_row 5 (lit< tt))
        (is_row 6 (lit< tt))
        (row_shown (more (row_at all 7) == 1) (t.wide 7 (omega arith)) (shown 7 (lit< tt)) (bit_is (more (row_at all 7)) last_row.more_bit)) refl;
    starts = first_row;
    stops = last_row;
    mode_same = (shown 7 (lit< tt)).mode_is ∙ sym (shown 0 (lit< tt)).mode_is;
    behind = (shown 7 (lit< tt)).state_is ∙ sym (permuted-is c.constants (state (row_at all 0)));
  }

-- ---- tables

-- what the rows before say of the next one
unfoldable pub LinksTo : Bool → List ℕ → Option (List ℕ) → Type 0
LinksTo going last None = going ≡ false
LinksTo going last (Some y) = (cont y ≡ bit_of going) × (going ≡ true → take 4 (state y) ≡ take 4 last)

links : (cur last : List ℕ) (next : Option (List ℕ)) → more cur < 2 → state cur ≡ last → LinkedTo cur next → LinksTo (more cur == 1) last next
unfolding LinksTo
links cur last None bit same l = ap (λ n. n == 1) l
links cur last (Some y) bit same l = (l.0 ∙ bit_is (more cur) bit, λ is. l.1 (eqb-true (more cur) 1 is) ∙ ap (take 4) same)

zero_bit : (a : ℕ) → a < 2 → (a == 1) ≡ false → a ≡ 0
zero_bit zero h e = refl
zero_bit (suc zero) h e = absurd (cc)
zero_bit (suc (suc a)) h e = absurd (omega arith)

-- the rows are those of the permutations that they show, which follow what stands before
pub record FitFrom (constants : List ℕ) (going : Bool) (last : List ℕ) (rows : List (List ℕ)) : Type 0 where
  pub follows : FollowsOn constants going last (perms_in rows)
  pub states : OfStates (perms_in rows)
  pub rows_are : rows ≡ rows_of_perms constants (perms_in rows)

module _ (c : Claim) (len : length c.constants ≡ number_of_constants) where
  fit_from : (i : ℕ) (going : Bool) (last : List ℕ) (rows : List (List ℕ)) → i % 8 ≡ 0 → length rows % 8 ≡ 0 → IsTable 15 rows
      → ZeroFrom (hasher_values c) i rows → LinksTo going last (slice_get rows 0) → FitFrom c.constants going last rows
  unfolding perms_in perm_of rows_of_perms LinksTo state
  fit_from i going last [] start whole t z l = record { follows = l; states = All-nil (λ p. IsState p.start); rows_are = refl }
  fit_from i going last (r0 ∷ r1 ∷ r2 ∷ r3 ∷ r4 ∷ r5 ∷ r6 ∷ r7 ∷ rows) start whole t z l =
      let b = block_shows c len i start (r0 ∷ r1 ∷ r2 ∷ r3 ∷ r4 ∷ r5 ∷ r6 ∷ r7 ∷ rows) (omega arith) t z in
      let on = ap (λ n. n == 1) l.0 ∙ bit_again going in
      let later = fit_from (eight i) (more r7 == 1) (permuted c.constants (state r0)) rows (omega arith) (omega arith) (table_rest t)
      (zero_rest z) (links r7 (permuted c.constants (state r0)) (slice_get rows 0) b.stops.more_bit b.behind b.stops.linked) in
      record {
        follows = (
          on,
          λ is. (
            ap (λ n. n == 1) (b.starts.no_hash (eqb-true (mode r0) 1 is)),
            ap (λ n. n == 1) (b.stops.no_hash (b.mode_same ∙ eqb-true (mode r0) 1 is)),
          ),
          λ is. l.1 (sym on ∙ is),
          λ m none. b.starts.zeros (zero_bit (mode r0) b.starts.mode_bit m) (zero_bit (cont r0) b.starts.cont_bit none),
          later.follows,
        );
        states = All-cons (λ p. IsState p.start) (perm_of r0 r7) (perms_in rows) (state-IsState r0 (t.below 0)) later.states;
        rows_are = b.rows_are rows ∙ ap (rows_before c.constants (perm_of r0 r7)) later.rows_are;
      }
  fit_from i going last _ start whole t z l = absurd (omega arith)

  -- nothing is promised before the first row
  first_links : (rows : List (List ℕ)) → length rows % 8 ≡ 0 → IsTable 15 rows → ZeroFrom (hasher_values c) 0 rows
      → LinksTo false [] (slice_get rows 0)
  unfolding LinksTo
  first_links [] whole t z = refl
  first_links (r ∷ rows) whole t z =
      ((first_row c len 0 refl (r ∷ rows) (omega arith) t z).first_one refl, λ is. absurd (cc))

  pub whole_fits : (rows : List (List ℕ)) → HasherIsZero c rows → FitFrom c.constants false [] rows
  whole_fits rows z =
      let zeros = zero_from (hasher_values c) rows z.zero in
      fit_from 0 false [] rows refl z.whole z.table zeros (first_links rows z.whole z.table zeros)
