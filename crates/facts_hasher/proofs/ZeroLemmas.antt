-- Values that are 0 at a row of a permutation, and what they say of the row and the next one.
use Rattle.std.proofs.Common.{Bool, List, None, Option, Some, ap, ap₂, arith, false, length, lit<, nat_lt, refl, slice_index, suc, sym, take, true, ℕ, ◌+◌, ◌*◌, ◌%◌, ◌<◌, ◌==◌, ◌∙◌, ◌≡◌}
use Rattle.std.proofs.lemmas.Bool.{lt-ltb, ne_eqb}
use Rattle.std.proofs.lemmas.List.{ext_get_or}
use Rattle.vm_field.specs.Field.{prime, felt_pow, felt_sub, felt_mul}
use Rattle.vm_field.specs.Permutation.{before_roots, round, round_constants, seventh_powers}
use Rattle.vm_field.proofs.Algebra.{same_from_sub, bit_from_product}
use Rattle.vm_field.proofs.PermutationLemmas.{round-powers}
use Rattle.vm_field.proofs.PowerLaws.{power-below}
use Rattle.vm_field.proofs.Elements.{elements-index}
use Rattle.chip_columns.specs.HasherColumns.{mode, cont, more, x, state}
use Rattle.rpo_hash.specs.States.{IsState}
use Rattle.rpo_hash.proofs.OneToOne.{before_roots-IsState}
use Rattle.air_kit.proofs.FaultLemmas.{family_at}
use Rattle.air_kit.specs.Places.{Claim, family}
use Rattle.air_kit.specs.HasherValues.{begins_at_zero, hasher_flag_values, chain_values, round_values, hasher_values, hasher_values_by}
use Rattle.facts_hasher.proofs.BlockLemmas.{AllZero}
use Rattle.facts_hasher.proofs.RowLemmas.{CellsBelow, state-IsState}
use Rattle.facts_hasher.proofs.Totals.{eight}

-- ---- by the place of a row among its eight

values_at : (c : Claim) (i k : ℕ) (cur : List ℕ) (next : Option (List ℕ)) → i % 8 ≡ 0 → k < 8
    → hasher_values c (record { row = i + k; cur = cur; next = next })
    ≡ hasher_values_by (i + k == 0) (k == 0) (nat_lt k 7) (k == 7) (round_constants c.constants k) cur next
unfolding hasher_values
values_at c i k cur next start h =
    let place : (i + k) % 8 ≡ k = omega (arith, start, h) in
    ap (λ m. hasher_values_by (i + k == 0) (m == 0) (nat_lt m 7) (m == 7) (round_constants c.constants m) cur next) place

pub values_inside : (c : Claim) (i k : ℕ) (cur : List ℕ) (next : Option (List ℕ)) → i % 8 ≡ 0 → k < 7
    → hasher_values c (record { row = i + k; cur = cur; next = next })
    ≡ hasher_values_by (i + k == 0) (k == 0) true false (round_constants c.constants k) cur next
values_inside c i k cur next start h =
    values_at c i k cur next start (omega (arith, h))
    ∙ ap₂ (λ inside ends. hasher_values_by (i + k == 0) (k == 0) inside ends (round_constants c.constants k) cur next) (lt-ltb k 7 h)
    (ne_eqb k 7 (λ e. omega (arith, e, h)))

pub values_last : (c : Claim) (i : ℕ) (cur : List ℕ) (next : Option (List ℕ)) → i % 8 ≡ 0
    → hasher_values c (record { row = i + 7; cur = cur; next = next })
    ≡ hasher_values_by (i + 7 == 0) false false true (round_constants c.constants 7) cur next
values_last c i cur next start = values_at c i 7 cur next start (lit< tt)

-- ---- inside of the eight rows: flags stay, and a round goes by

pub record IsNextRound (constants cur next : List ℕ) : Type 0 where
  pub more_none : more cur ≡ 0
  pub mode_same : mode next ≡ mode cur
  pub cont_same : cont next ≡ cont cur
  pub round_is : state next ≡ round constants (state cur)

pub goes_on : (first begins : Bool) (constants cur next : List ℕ) → length constants ≡ 24 → CellsBelow cur → CellsBelow next
    → AllZero (hasher_values_by first begins true false constants cur (Some next)) → IsNextRound constants cur next
unfolding hasher_values_by hasher_flag_values chain_values round_values family state
goes_on first begins constants cur next len below below_next zero_is = record {
  more_none = zero_is 6;
  mode_same = same_from_sub (mode next) (mode cur) (below_next 0) (below 0) (zero_is 7);
  cont_same = same_from_sub (cont next) (cont cur) (below_next 1) (below 1) (zero_is 8);
  round_is =
      (round-powers constants (state cur) (state next) (state-IsState next below_next).below).1
      (ext_get_or 0 (seventh_powers (state next)) before (sym is.size) (λ j h. family_at 12 (λ j. felt_pow (x next j) 7) j h ∙ power_at j h));
}
  where
    before : List ℕ
    before = before_roots constants (state cur)

    is : IsState before
    is = before_roots-IsState constants (state cur) len

    power_at : (j : ℕ) → j < 12 → felt_pow (x next j) 7 ≡ slice_index before j
    power_at j h =
        same_from_sub (felt_pow (x next j) 7) (slice_index before j) (power-below prime (x next j) 7 (lit< tt)) (elements-index before j is.below)
        (sym (family_at 12 (λ j. felt_sub (felt_pow (x next j) 7) (slice_index before j)) j h) ∙ zero_is (eight (eight (suc j))))

-- ---- the first of the eight

pub record Begins (first : Bool) (cur : List ℕ) : Type 0 where
  pub mode_bit : mode cur < 2
  pub cont_bit : cont cur < 2
  pub no_hash : mode cur ≡ 1 → cont cur ≡ 0
  pub first_one : first ≡ true → cont cur ≡ 0
  pub zeros : mode cur ≡ 0 → cont cur ≡ 0 → (x cur 0 ≡ 0) × (x cur 2 ≡ 0) × (x cur 3 ≡ 0)

other_none : (a b c : ℕ) → a ≡ 1 → b < 2 → c < 2 → felt_mul a ((b + c) % prime) ≡ 0 → (b ≡ 0) × (c ≡ 0)
other_none a b c ea hb hc zero_is =
    let e : (1 * ((b + c) % prime)) % prime ≡ 0 = ap (λ n. (n * ((b + c) % prime)) % prime) (sym ea) ∙ zero_is in omega (arith, e)

at_zero : (row : List ℕ) (j : ℕ) → x row j < prime → mode row ≡ 0 → cont row ≡ 0 → begins_at_zero row j ≡ 0 → x row j ≡ 0
unfolding begins_at_zero
at_zero row j below m c zero_is =
    let e : ((felt_mul (felt_sub 1 0) (felt_sub 1 0)) * x row j) % prime ≡ 0 =
    ap₂ (λ a b. felt_mul (felt_mul (felt_sub 1 a) (felt_sub 1 b)) (x row j)) (sym m) (sym c) ∙ zero_is in
    omega (arith, e)

pub begins : (first : Bool) (constants cur : List ℕ) (next : Option (List ℕ)) → CellsBelow cur
    → AllZero (hasher_values_by first true true false constants cur next) → Begins first cur
unfolding hasher_values_by hasher_flag_values
begins first constants cur next below zero_is =
    let cont_bit = bit_from_product (cont cur) (below 1) (zero_is 1) in
    record {
      mode_bit = bit_from_product (mode cur) (below 0) (zero_is 0);
      cont_bit = cont_bit;
      no_hash = λ is. (other_none (mode cur) (cont cur) (more cur) is cont_bit (bit_from_product (more cur) (below 2) (zero_is 2)) (zero_is 3)).0;
      first_one = λ is. ap (λ b. slice_index (hasher_values_by b true true false constants cur next) 4) (sym is) ∙ zero_is 4;
      zeros = λ m c. (
        at_zero cur 0 (below 3) m c (zero_is 10),
        at_zero cur 2 (below 5) m c (zero_is 11),
        at_zero cur 3 (below 6) m c (zero_is 12),
      );
    }

-- ---- the last of the eight

abbrev pub LinkedTo : List ℕ → Option (List ℕ) → Type 0
LinkedTo cur None = more cur ≡ 0
LinkedTo cur (Some y) = (cont y ≡ more cur) × (more cur ≡ 1 → take 4 (state y) ≡ take 4 (state cur))

pub record Ends (cur : List ℕ) (next : Option (List ℕ)) : Type 0 where
  pub more_bit : more cur < 2
  pub no_hash : mode cur ≡ 1 → more cur ≡ 0
  pub linked : LinkedTo cur next

chained : (m a b : ℕ) → m ≡ 1 → a < prime → b < prime → felt_mul m (felt_sub a b) ≡ 0 → a ≡ b
chained m a b is ha hb zero_is =
    let e : (1 * felt_sub a b) % prime ≡ 0 = ap (λ n. (n * felt_sub a b) % prime) (sym is) ∙ zero_is in
    same_from_sub a b ha hb (omega (arith, e))

linked : (first : Bool) (constants cur : List ℕ) (next : Option (List ℕ)) → CellsBelow cur → ((y : List ℕ) → next ≡ Some y → CellsBelow y)
    → AllZero (hasher_values_by first false false true constants cur next) → LinkedTo cur next
unfolding hasher_values_by hasher_flag_values chain_values family state
linked first constants cur None below below_next zero_is = zero_is 5
linked first constants cur (Some y) below below_next zero_is = (
  same_from_sub (cont y) (more cur) (below_next y refl 1) (below 2) (zero_is 9),
  λ is. cc (same is 0 (zero_is 13), same is 1 (zero_is 14), same is 2 (zero_is 15), same is 3 (zero_is 16)),
)
  where
    same : more cur ≡ 1 → (j : ℕ) → felt_mul (more cur) (felt_sub (x y j) (x cur j)) ≡ 0 → x y j ≡ x cur j
    same is j z = chained (more cur) (x y j) (x cur j) is (below_next y refl (3 + j)) (below (3 + j)) z

pub ends : (first : Bool) (constants cur : List ℕ) (next : Option (List ℕ)) → CellsBelow cur → ((y : List ℕ) → next ≡ Some y → CellsBelow y)
    → AllZero (hasher_values_by first false false true constants cur next) → Ends cur next
unfolding hasher_values_by hasher_flag_values
ends first constants cur next below below_next zero_is =
    let more_bit = bit_from_product (more cur) (below 2) (zero_is 2) in
    record {
      more_bit = more_bit;
      no_hash = λ is. (other_none (mode cur) (cont cur) (more cur) is (bit_from_product (cont cur) (below 1) (zero_is 1)) more_bit (zero_is 3)).1;
      linked = linked first constants cur next below below_next zero_is;
    }
