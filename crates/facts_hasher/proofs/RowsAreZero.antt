-- The rows of permutations that fit have all entries 0, and show these permutations again.
use Rattle.std.proofs.Common.{Bool, List, None, Option, Some, [], ap, ap₂, arith, false, length, lit<, refl, slice_get, slice_index, subst, suc, sym, take, true, zero, ℕ, ◌+◌, ◌*◌, ◌%◌, ◌<◌, ◌==◌, ◌∙◌, ◌∷◌, ◌≡◌, ◌≤◌}
use Rattle.std.proofs.lemmas.Bool.{eqb-true}
use Rattle.vm_ops.specs.Values.{bit_of}
use Rattle.vm_field.specs.Limits.{number_of_constants}
use Rattle.vm_field.specs.Field.{prime, AreElements, felt_pow, felt_sub, felt_mul, felt_add}
use Rattle.vm_field.specs.Permutation.{before_roots, round, rounds, round_constants, permuted, seventh_powers}
use Rattle.vm_field.proofs.Algebra.{felt_sub-same, felt_mul-zero_first, felt_mul-zero_second}
use Rattle.vm_field.proofs.PermutationLemmas.{elements-round, elements-rounds, length-rounds, permuted-is, rounds-last, rounds-none, round-powers}
use Rattle.vm_field.proofs.PowerLaws.{power-below}
use Rattle.vm_field.proofs.Elements.{elements-index}
use Rattle.vm_table.specs.Layout.{IsTable}
use Rattle.chip_columns.specs.HasherColumns.{mode, cont, x, state}
use Rattle.rpo_hash.specs.States.{IsState}
use Rattle.air_kit.proofs.FaultLemmas.{family_at}
use Rattle.air_kit.specs.declared.requests.Perm.{Perm}
use Rattle.air_kit.specs.ChipPlaces.{in_last, only, paired}
use Rattle.air_kit.specs.Places.{Claim, family}
use Rattle.air_kit.specs.HasherValues.{begins_at_zero, bit_value, hasher_flag_values, chain_values, round_values, hasher_values, hasher_values_by}
use Rattle.air_kit.specs.Requests.{FollowsOn}
use Rattle.facts_hasher.specs.PermRows.{perm_row, rows_before, rows_of_perms, perm_of, perms_in}
use Rattle.facts_hasher.specs.HashTables.{HasherIsZero, PermsFit}
use Rattle.facts_hasher.proofs.BlockLemmas.{AllZero, Each, ZeroFrom, all_append, all_family, each_at, eight_cases, no_values, none_from, table_cons, table_none, value_then, zero_all, zero_eight}
use Rattle.facts_hasher.proofs.RowLemmas.{CellsBelow, IsFresh, OfStates, bit_again, first_state, later_states, state_is}
use Rattle.facts_hasher.proofs.Totals.{eight}
use Rattle.facts_hasher.proofs.ZeroLemmas.{values_inside, values_last}
use Rattle.facts_hasher.proofs.ZerosAreRows.{LinksTo}

-- ---- values by flags

-- the three lists of values, all zeros
joined_zero : (first begins inside ends : Bool) (constants row : List ℕ) (next : Option (List ℕ))
    → Each (λ v. v ≡ 0) (hasher_flag_values first begins inside ends row next) → AllZero (chain_values ends row next)
    → AllZero (round_values inside constants row next) → AllZero (hasher_values_by first begins inside ends constants row next)
unfolding hasher_values_by
joined_zero first begins inside ends constants row next flags chain round =
    all_append (hasher_flag_values first begins inside ends row next) _ (each_at (λ v. v ≡ 0) _ refl flags) (all_append _ _ chain round)

bit_zero : (b : Bool) → bit_value (bit_of b) ≡ 0
bit_zero true = refl
bit_zero false = refl

pub bit_below : (b : Bool) → bit_of b < 2
bit_below true = lit< tt
bit_below false = lit< tt

pub same_bits : (b : Bool) → felt_sub (bit_of b) (bit_of b) ≡ 0
same_bits true = refl
same_bits false = refl

pub only_zero : (test : Bool) (value : ℕ) → (test ≡ true → value ≡ 0) → only test value ≡ 0
only_zero true value is = is refl
only_zero false value is = refl

apart_zero : (m a b : Bool) → (m ≡ true → (a ≡ false) × (b ≡ false)) → felt_mul (bit_of m) (felt_add (bit_of a) (bit_of b)) ≡ 0
apart_zero true a b none = ap₂ (λ c d. felt_mul 1 (felt_add (bit_of c) (bit_of d))) (none refl).0 (none refl).1
apart_zero false a b none = felt_mul-zero_first 0 (felt_add (bit_of a) (bit_of b)) refl

begin_zero : (m c : Bool) (row : List ℕ) (j : ℕ) → mode row ≡ bit_of m → cont row ≡ bit_of c
    → (m ≡ false → c ≡ false → x row j ≡ 0) → begins_at_zero row j ≡ 0
unfolding begins_at_zero
begin_zero true c row j em ec is =
    felt_mul-zero_first _ (x row j) (ap₂ (λ a b. felt_mul (felt_sub 1 a) (felt_sub 1 b)) em ec
    ∙ felt_mul-zero_first 0 (felt_sub 1 (bit_of c)) refl)
begin_zero false true row j em ec is =
    felt_mul-zero_first _ (x row j) (ap₂ (λ a b. felt_mul (felt_sub 1 a) (felt_sub 1 b)) em ec)
begin_zero false false row j em ec is = felt_mul-zero_second _ (x row j) (is refl refl)

chained_zero : (going : Bool) (a b : ℕ) → b < prime → (going ≡ true → a ≡ b) → felt_mul (bit_of going) (felt_sub a b) ≡ 0
chained_zero true a b h same = felt_mul-zero_second 1 (felt_sub a b) (felt_sub-same a b (subst (λ n. n < prime) (sym (same refl)) h) (same refl))
chained_zero false a b h same = felt_mul-zero_first 0 (felt_sub a b) refl

chain_none : (row : List ℕ) (next : Option (List ℕ)) → AllZero (chain_values false row next)
unfolding chain_values
chain_none row next = all_family 4 _ (λ j h. refl)

round_none : (constants row : List ℕ) (next : Option (List ℕ)) → AllZero (round_values false constants row next)
unfolding round_values
round_none constants row next = all_family 12 _ (λ j h. refl)

round_zero : (constants cur next : List ℕ) → state next ≡ round constants (state cur) → AllZero (round_values true constants cur (Some next))
unfolding round_values state family
round_zero constants cur next is =
    all_family 12 _ (λ j h. felt_sub-same (felt_pow (x next j) 7) (slice_index (before_roots constants (state cur)) j)
    (power-below prime (x next j) 7 (lit< tt)) (sym (family_at 12 (λ j. felt_pow (x next j) 7) j h) ∙ ap (λ s. slice_index s j) powers))
  where
    powers : seventh_powers (state next) ≡ before_roots constants (state cur)
    powers = (round-powers constants (state cur) (state next) (subst AreElements (sym is) (elements-round constants (state cur)))).0 is

capacity_at : (y cur : List ℕ) → take 4 (state y) ≡ take 4 (state cur) → (j : ℕ) → j < 4 → x y j ≡ x cur j
unfolding state family
capacity_at y cur e j h = sym (family_at 4 (x y) j h) ∙ ap (λ s. slice_index s j) e ∙ family_at 4 (x cur) j h

-- ---- the rows of a permutation

module _ (constants : List ℕ) (len : length constants ≡ number_of_constants) (p : Perm) (s : IsState p.start) where
  rounds-IsState : (k : ℕ) → k ≤ 7 → IsState (rounds k constants p.start)
  rounds-IsState k h =
      record { size = length-rounds k constants p.start (omega arith) s.size; below = elements-rounds k constants p.start s.below }

  pub row_state : (k : ℕ) (going : Bool) → k ≤ 7 → state (perm_row constants p k going) ≡ rounds k constants p.start
  unfolding perm_row
  row_state k going h = state_is _ _ _ (rounds k constants p.start) (rounds-IsState k h).size

  -- the first row shows what goes in, and the last one what comes out
  pub first_shows : state (perm_row constants p 0 false) ≡ p.start
  first_shows = row_state 0 false (omega arith) ∙ rounds-none constants p.start

  pub last_shows : state (perm_row constants p 7 p.more) ≡ permuted constants p.start
  last_shows = row_state 7 p.more (omega arith) ∙ sym (permuted-is constants p.start)

  row_below : (k : ℕ) (going : Bool) → k ≤ 7 → CellsBelow (perm_row constants p k going)
  unfolding perm_row
  row_below k going h zero = let b = bit_below p.mode in omega (arith, b)
  row_below k going h (suc zero) = let b = bit_below p.cont in omega (arith, b)
  row_below k going h (suc (suc zero)) = let b = bit_below going in omega (arith, b)
  row_below k going h (suc (suc (suc j))) = elements-index (rounds k constants p.start) j (rounds-IsState k h).below

  with_row : (k : ℕ) (going : Bool) {rows : List (List ℕ)} → k ≤ 7 → IsTable 15 rows → IsTable 15 (perm_row constants p k going ∷ rows)
  unfolding perm_row
  with_row k going h t =
      let size = (rounds-IsState k h).size in table_cons (perm_row constants p k going) (omega arith) (row_below k going h) t

  -- what its flags are, where it may be the first of all
  module _ (first : Bool) (no_first : first ≡ true → p.cont ≡ false) (apart : p.mode ≡ true → (p.cont ≡ false) × (p.more ≡ false)) where
    inside_zero : IsFresh p → (k : ℕ) (going : Bool) → k < 7
        → AllZero (hasher_values_by first (k == 0) true false (round_constants constants k) (perm_row constants p k false)
        (Some (perm_row constants p (suc k) going)))
    unfolding hasher_flag_values perm_row
    inside_zero fresh k going h =
        joined_zero first (k == 0) true false (round_constants constants k) (perm_row constants p k false)
        (Some (perm_row constants p (suc k) going))
        (value_then (bit_zero p.mode) (value_then (bit_zero p.cont) (value_then refl
        (value_then (apart_zero p.mode p.cont false (λ m. ((apart m).0, refl)))
        (value_then (only_zero first (bit_of p.cont) (λ is. ap bit_of (no_first is))) (value_then refl (value_then refl
        (value_then (same_bits p.mode) (value_then (same_bits p.cont) (value_then refl
        (value_then (start 0 (λ is m c. at 0 is (fresh m c).0)) (value_then (start 2 (λ is m c. at 2 is (fresh m c).1))
        (value_then (start 3 (λ is m c. at 3 is (fresh m c).2)) no_values)))))))))))))
        (chain_none (perm_row constants p k false) (Some (perm_row constants p (suc k) going)))
        (round_zero (round_constants constants k) (perm_row constants p k false) (perm_row constants p (suc k) going)
        (row_state (suc k) going (omega arith) ∙ rounds-last k constants p.start
        ∙ ap (round (round_constants constants k)) (sym (row_state k false (omega arith)))))
      where
        at : (j : ℕ) → (k == 0) ≡ true → slice_index p.start j ≡ 0 → slice_index (rounds k constants p.start) j ≡ 0
        at j is z =
            ap (λ n. slice_index (rounds n constants p.start) j) (eqb-true k 0 is) ∙ ap (λ s. slice_index s j) (rounds-none constants p.start) ∙ z

        start : (j : ℕ) → ((k == 0) ≡ true → p.mode ≡ false → p.cont ≡ false → x (perm_row constants p k false) j ≡ 0)
            → only (k == 0) (begins_at_zero (perm_row constants p k false) j) ≡ 0
        start j z = only_zero (k == 0) _ (λ is. begin_zero p.mode p.cont (perm_row constants p k false) j refl refl (z is))

    last_zero : (next : Option (List ℕ)) → LinksTo p.more (permuted constants p.start) next
        → AllZero (hasher_values_by first false false true (round_constants constants 7) (perm_row constants p 7 p.more) next)
    unfolding hasher_flag_values chain_values perm_row LinksTo
    last_zero next l =
        joined_zero first false false true (round_constants constants 7) row next
        (value_then (bit_zero p.mode) (value_then (bit_zero p.cont) (value_then (bit_zero p.more)
        (value_then (apart_zero p.mode p.cont p.more apart) (value_then (only_zero first (bit_of p.cont) (λ is. ap bit_of (no_first is)))
        (value_then (kept next l).0 (value_then refl (value_then refl (value_then refl (value_then (kept next l).1
        (value_then refl (value_then refl (value_then refl no_values)))))))))))))
        (all_family 4 _ (λ j h. chained next l j h)) (round_none (round_constants constants 7) row next)
      where
        row : List ℕ
        row = perm_row constants p 7 p.more

        -- the promise that the hash goes on, and the capacity with which it does
        kept : (next : Option (List ℕ)) → LinksTo p.more (permuted constants p.start) next
            → (in_last (bit_of p.more) next ≡ 0) × (paired (λ y. felt_sub (cont y) (bit_of p.more)) next ≡ 0)
        kept None l = (ap bit_of l, refl)
        kept (Some y) l = (refl, ap (λ c. felt_sub c (bit_of p.more)) l.0 ∙ same_bits p.more)

        chained : (next : Option (List ℕ)) → LinksTo p.more (permuted constants p.start) next → (j : ℕ) → j < 4
            → paired (λ y. felt_mul (bit_of p.more) (felt_sub (x y j) (x row j))) next ≡ 0
        chained None l j h = refl
        chained (Some y) l j h =
            chained_zero p.more (x y j) (x row j) (row_below 7 p.more (omega arith) (3 + j))
            (λ on. capacity_at y row (l.1 on ∙ ap (take 4) (sym last_shows)) j h)

  pub perm_again : perm_of (perm_row constants p 0 false) (perm_row constants p 7 p.more) ≡ p
  unfolding perm_of perm_row
  perm_again = λ i. record { mode = bit_again p.mode i; cont = bit_again p.cont i; more = bit_again p.more i; start = first_shows i }

-- ---- all rows

pub rows_of-size : (constants : List ℕ) (perms : List Perm) → length (rows_of_perms constants perms) ≡ 8 * length perms
unfolding rows_of_perms rows_before
rows_of-size constants [] = refl
rows_of-size constants (p ∷ perms) = let e = rows_of-size constants perms in omega (arith, e)

module _ (constants : List ℕ) (len : length constants ≡ number_of_constants) where
  table_of : (perms : List Perm) → OfStates perms → IsTable 15 (rows_of_perms constants perms)
  unfolding rows_of_perms rows_before
  table_of [] s = table_none 15
  table_of (p ∷ perms) s =
      row 0 false (omega arith) (row 1 false (omega arith) (row 2 false (omega arith) (row 3 false (omega arith) (row 4 false (omega arith)
      (row 5 false (omega arith) (row 6 false (omega arith) (row 7 p.more (omega arith) (table_of perms (later_states p perms s)))))))))
    where
      row : (k : ℕ) (going : Bool) {rows : List (List ℕ)} → k ≤ 7 → IsTable 15 rows → IsTable 15 (perm_row constants p k going ∷ rows)
      row k going h t = with_row constants len p (first_state p perms s) k going h t

  next_links : (going : Bool) (last : List ℕ) (perms : List Perm) → OfStates perms → FollowsOn constants going last perms
      → LinksTo going last (slice_get (rows_of_perms constants perms) 0)
  unfolding LinksTo rows_of_perms rows_before perm_row
  next_links going last [] s f = f
  next_links going last (p ∷ perms) s f =
      (ap bit_of f.0, λ on. ap (take 4) (first_shows constants len p (first_state p perms s)) ∙ f.2 (f.0 ∙ on))

  pub perms_again : (perms : List Perm) → OfStates perms → perms_in (rows_of_perms constants perms) ≡ perms
  unfolding rows_of_perms rows_before perms_in
  perms_again [] s = refl
  perms_again (p ∷ perms) s =
      ap₂ (λ (q : Perm) (qs : List Perm). q ∷ qs) (perm_again constants len p (first_state p perms s)) (perms_again perms (later_states p perms s))

module _ (c : Claim) (len : length c.constants ≡ number_of_constants) where
  rows_zero : (i : ℕ) (going : Bool) (last : List ℕ) (perms : List Perm) → i % 8 ≡ 0 → OfStates perms → FollowsOn c.constants going last perms
      → (i ≡ 0 → going ≡ false) → ZeroFrom (hasher_values c) i (rows_of_perms c.constants perms)
  unfolding rows_of_perms rows_before
  rows_zero i going last [] start s f no_first = none_from (hasher_values c) i
  rows_zero i going last (p ∷ perms) start s f no_first =
      zero_eight (eight_cases _ (inside 0 false (lit< tt)) (inside 1 false (lit< tt)) (inside 2 false (lit< tt)) (inside 3 false (lit< tt))
      (inside 4 false (lit< tt)) (inside 5 false (lit< tt)) (inside 6 p.more (lit< tt))
      (subst AllZero (sym (values_last c i (perm_row c.constants p 7 p.more) next start))
      (last_zero c.constants len p own (i + 7 == 0) (not_first 7) f.1 next (next_links c.constants len p.more (permuted c.constants p.start) perms later f.4))))
      (rows_zero (eight i) p.more (permuted c.constants p.start) perms (omega arith) later f.4 (λ e. absurd (omega arith)))
    where
      own : IsState p.start
      own = first_state p perms s

      later : OfStates perms
      later = later_states p perms s

      next : Option (List ℕ)
      next = slice_get (rows_of_perms c.constants perms) 0

      not_first : (k : ℕ) → (i + k == 0) ≡ true → p.cont ≡ false
      not_first k on = f.0 ∙ no_first (let e = eqb-true (i + k) 0 on in omega (arith, e))

      inside : (k : ℕ) (going : Bool) → k < 7 → AllZero (hasher_values c (record {
        row = i + k;
        cur = perm_row c.constants p k false;
        next = Some (perm_row c.constants p (suc k) going);
      }))
      inside k going h =
          subst AllZero (sym (values_inside c i k (perm_row c.constants p k false) (Some (perm_row c.constants p (suc k) going)) start h))
          (inside_zero c.constants len p own (i + k == 0) (not_first k) f.1 f.3 k going h)

  pub rows_are_zero : (perms : List Perm) → PermsFit c.constants perms → HasherIsZero c (rows_of_perms c.constants perms)
  rows_are_zero perms fit = record {
    table = table_of c.constants len perms fit.states;
    whole = let e = rows_of-size c.constants perms in omega (arith, e);
    zero = zero_all (rows_zero 0 false [] perms refl fit.states fit.follows (λ _. refl));
  }
