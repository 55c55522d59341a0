-- What the entries 140 to 147 say where they are 0, and back: numbers of 32 bits.
use Rattle.facts_main.proofs.Words.{◌≡◌, ℕ, ◌<◌, Bool, true, false, ◌&&◌, ◌||◌, cond, refl, sym, ◌⊎◌, inl, inr, ◌≢◌, arith}
use Rattle.facts_main.proofs.Words.{lit<, prime, felt_add, felt_mul, felt_sub, Op, is_op, List, slice_index, Spot, HasOps, u32_values, ⊎_elim}
use Rattle.vm_ops.specs.declared.op.Op.TheVariants as ops
use Rattle.air_kit.specs.U32Values.{limbs, takes_two, takes_three, two_left, entry_140, entry_141, entry_142, entry_143, entry_144, entry_145, entry_146, entry_147}
use Rattle.facts_main.specs.Limbs.{ShowsLimbs, has_second, has_third, has_high_word}
use Rattle.facts_main.proofs.Says.{Says, says_as, off, rest_low, rest_says, zero_says, sub_says, sub_twice_says, bit_says, mul_says, gate, gate_product_if, one, one_product, both, both_say, either_or}
use Rattle.facts_main.proofs.Hot.{hot}
use Rattle.facts_main.proofs.Means.{Means, ◌▸◌, ◌&◌, means_as, nothing}
use Rattle.facts_main.proofs.SpotSays.{row_at, pair_at}

-- ---- flags as tests

seconds_is : (op : Op) → takes_two (hot op) ≡ cond (has_second op) 1 0
unfolding takes_two
seconds_is ops.U32Add = refl
seconds_is op = refl

thirds_is : (op : Op) → takes_three (hot op) ≡ cond (has_third op) 1 0
unfolding takes_three
thirds_is ops.U32Add3 = refl
thirds_is op = refl

-- those whose low word has the limbs 4 and 5
abbrev leaves_second : Op → Bool
leaves_second op = is_op op ops.U32Add || is_op op ops.U32Sub || is_op op ops.U32Mul || is_op op ops.U32Div

lows_is : (op : Op) → felt_add (felt_add (felt_add (hot op ops.U32Add) (hot op ops.U32Sub)) (hot op ops.U32Mul)) (hot op ops.U32Div) ≡ cond
    (leaves_second op) 1 0
lows_is ops.U32Add = refl
lows_is op = refl

-- those whose high word has the limbs 6 and 7
abbrev leaves_fourth : Op → Bool
leaves_fourth op = is_op op ops.U32Mul || is_op op ops.U32Div

highs_is : (op : Op) → felt_add (hot op ops.U32Mul) (hot op ops.U32Div) ≡ cond (leaves_fourth op) 1 0
highs_is ops.U32Mul = refl
highs_is op = refl

words_is : (op : Op) → felt_add (felt_add (hot op ops.U32Split) (hot op ops.U32Mul)) (hot op ops.U32MAdd) ≡ cond (has_high_word op) 1 0
words_is ops.U32Split = refl
words_is op = refl

limbs_low : (j : ℕ) (x : List ℕ) → limbs j x < prime
unfolding limbs
limbs_low j x = rest_low _

left_low : (y : List ℕ) → two_left y < prime
unfolding two_left
left_low y = rest_low _

-- ---- differences of several

three_less : {i j k l : ℕ} → i < prime → j < prime → k < prime → l < prime
    → Says (felt_sub (felt_sub (felt_sub i j) k) l) (i ≡ felt_add (felt_add j k) l)
three_less hi hj hk hl = rest_says _ (λ z. omega arith) (λ e. omega arith)

borrow_says : {i j k m : ℕ} → i < prime → j < prime → k < prime → m < prime
    → Says (felt_add (felt_sub (felt_sub i j) k) m) (felt_add i m ≡ felt_add j k)
borrow_says hi hj hk hm = rest_says _ (λ z. omega arith) (λ e. omega arith)

one_of : {v m : ℕ} → v < prime → m < prime → Says (felt_mul (felt_sub 1 m) v) (v ≢ 0 → m ≡ 1)
one_of {v = v} {m = m} lv lm =
    says_as (mul_says (sub_says (lit< tt) lm) (zero_says lv)) from (λ f. ⊎_elim (λ e. inr e) (λ apart. inl (sym (f apart))) (either_or v 0))
  where
    from : (1 ≡ m) ⊎ (v ≡ 0) → v ≢ 0 → m ≡ 1
    from (inl e) apart = sym e
    from (inr e) apart = absurd (apart e)

-- ---- at most one operation counts

split_or_low : (op : Op) → is_op op ops.U32Split && leaves_second op ≡ false
split_or_low ops.U32Split = refl
split_or_low op = refl

low_or_third : (op : Op) → (is_op op ops.U32Split || leaves_second op) && has_third op ≡ false
low_or_third ops.U32Split = refl
low_or_third op = refl

-- the tests of the entries of high words, one after another
abbrev high_2 : Op → Bool
high_2 op = is_op op ops.U32Split || is_op op ops.U32Add

abbrev high_3 : Op → Bool
high_3 op = high_2 op || is_op op ops.U32Add3

abbrev high_4 : Op → Bool
high_4 op = high_3 op || is_op op ops.U32Sub

abbrev high_5 : Op → Bool
high_5 op = high_4 op || leaves_fourth op

apart_2 : (op : Op) → is_op op ops.U32Split && is_op op ops.U32Add ≡ false
apart_2 ops.U32Split = refl
apart_2 op = refl

apart_3 : (op : Op) → high_2 op && is_op op ops.U32Add3 ≡ false
apart_3 ops.U32Split = refl
apart_3 op = refl

apart_4 : (op : Op) → high_3 op && is_op op ops.U32Sub ≡ false
apart_4 ops.U32Split = refl
apart_4 op = refl

apart_5 : (op : Op) → high_4 op && leaves_fourth op ≡ false
apart_5 ops.U32Split = refl
apart_5 op = refl

apart_6 : (op : Op) → high_5 op && is_op op ops.U32MAdd ≡ false
apart_6 ops.U32Split = refl
apart_6 op = refl

-- the tests of the entry of both words, one after another
abbrev whole_4 : Op → Bool
whole_4 op = high_3 op || is_op op ops.U32Mul

abbrev whole_5 : Op → Bool
whole_5 op = whole_4 op || is_op op ops.U32MAdd

abbrev whole_6 : Op → Bool
whole_6 op = whole_5 op || is_op op ops.U32Sub

whole_apart_4 : (op : Op) → high_3 op && is_op op ops.U32Mul ≡ false
whole_apart_4 ops.U32Split = refl
whole_apart_4 op = refl

whole_apart_5 : (op : Op) → whole_4 op && is_op op ops.U32MAdd ≡ false
whole_apart_5 ops.U32Split = refl
whole_apart_5 op = refl

whole_apart_6 : (op : Op) → whole_5 op && is_op op ops.U32Sub ≡ false
whole_apart_6 ops.U32Split = refl
whole_apart_6 op = refl

whole_apart_7 : (op : Op) → whole_6 op && is_op op ops.U32Div ≡ false
whole_apart_7 ops.U32Split = refl
whole_apart_7 op = refl

-- ---- tests of several operations

first_of_two : (a b : Bool) → a ≡ true → a || b ≡ true
first_of_two true b e = refl
first_of_two false b e = off e

second_of_two : (a b : Bool) → b ≡ true → a || b ≡ true
second_of_two true b e = refl
second_of_two false b e = e

from_two : {Q : Type 0} (a b : Bool) → (a ≡ true → Q) → (b ≡ true → Q) → a || b ≡ true → Q
from_two true b f g e = f refl
from_two false b f g e = g e

-- the low words and the high ones, by operation
add_low : (op : Op) → is_op op ops.U32Add ≡ true → leaves_second op ≡ true
add_low op e =
    first_of_two _ (is_op op ops.U32Div)
    (first_of_two _ (is_op op ops.U32Mul) (first_of_two (is_op op ops.U32Add) (is_op op ops.U32Sub) e))

sub_low : (op : Op) → is_op op ops.U32Sub ≡ true → leaves_second op ≡ true
sub_low op e =
    first_of_two _ (is_op op ops.U32Div)
    (first_of_two _ (is_op op ops.U32Mul) (second_of_two (is_op op ops.U32Add) (is_op op ops.U32Sub) e))

mul_low : (op : Op) → is_op op ops.U32Mul ≡ true → leaves_second op ≡ true
mul_low op e = first_of_two _ (is_op op ops.U32Div) (second_of_two (is_op op ops.U32Add || is_op op ops.U32Sub) (is_op op ops.U32Mul) e)

div_low : (op : Op) → is_op op ops.U32Div ≡ true → leaves_second op ≡ true
div_low op e = second_of_two (is_op op ops.U32Add || is_op op ops.U32Sub || is_op op ops.U32Mul) (is_op op ops.U32Div) e

-- ---- the entries

pub limb_means : (op : Op) (p : Spot) → HasOps op p → Means (u32_values p) (ShowsLimbs op p)
unfolding u32_values entry_140 entry_141 entry_142 entry_143 entry_144 entry_145 entry_146 entry_147
limb_means op p r =
    means_as
    (row_at entry_140 r (gate (seconds_is op) (sub_says (low 30) (limbs_low 0 x)))
    ▸ row_at entry_141 r (gate (seconds_is op) (sub_says (low 31) (limbs_low 2 x)))
    ▸ row_at entry_142 r (gate (thirds_is op) (sub_says (low 32) (limbs_low 4 x)))
    ▸ pair_at entry_143 r (λ y n. both_say
    (both (one refl (sub_says (n.low 31) (limbs_low 0 x))) (one (lows_is op) (sub_says (n.low 31) (limbs_low 4 x))) (split_or_low op))
    (one (thirds_is op) (sub_says (n.low 31) (limbs_low 6 x))) (low_or_third op))
    ▸ pair_at entry_144 r (λ y n. both_say (both (both (both (both
    (one refl (sub_says (n.low 30) (limbs_low 2 x))) (one refl (sub_says (n.low 30) (low 61))) (apart_2 op))
    (one refl (sub_says (n.low 30) (low 63))) (apart_3 op)) (one_product _ _ refl (bit_says (n.low 30))) (apart_4 op))
    (one (highs_is op) (sub_says (n.low 30) (limbs_low 6 x))) (apart_5 op)) (one refl (sub_says (n.low 30) (limbs_low 8 x))) (apart_6 op))
    ▸ pair_at entry_145 r (λ y n. both_say (both (both (both (both (both
    (one refl (sub_says (low 30) (left_low y))) (one refl (sub_says (rest_low _) (left_low y))) (apart_2 op))
    (one refl (sub_says (rest_low _) (left_low y))) (apart_3 op)) (one refl (sub_says (rest_low _) (left_low y))) (whole_apart_4 op))
    (one refl (sub_says (rest_low _) (left_low y))) (whole_apart_5 op))
    (one refl (borrow_says (low 31) (low 30) (n.low 31) (rest_low _))) (whole_apart_6 op))
    (one refl (sub_twice_says (low 31) (rest_low _) (n.low 30))) (whole_apart_7 op))
    ▸ pair_at entry_146 r (λ y n. gate_product_if _ _ (words_is op) (λ is. one_of (n.low 31) (rest_low _)))
    ▸ row_at entry_147 r (gate refl (three_less (low 30) (limbs_low 6 x) (lit< tt) (limbs_low 8 x))) ▸ nothing)
    (λ (first, (second, (third, (lows, (highs, (wholes, (one_way, (remainder, done)))))))). record {
      row = record { first = first; second = second; third = third; remainder = remainder };
      pair = λ y e. record {
        splits = λ is. record { low = (lows y e).0.0 is; high = (highs y e).0.0.0.0.0 is; whole = (wholes y e).0.0.0.0.0.0 is };
        adds = λ is. record { low = (lows y e).0.1 (add_low op is); high = (highs y e).0.0.0.0.1 is; whole = (wholes y e).0.0.0.0.0.1 is };
        adds_three = λ is. record {
          low = (lows y e).1 (first_of_two _ (is_op op ops.U32MAdd) is);
          high = (highs y e).0.0.0.1 is;
          whole = (wholes y e).0.0.0.0.1 is;
        };
        subtracts = λ is. record { low = (lows y e).0.1 (sub_low op is); borrow = (highs y e).0.0.1 is; whole = (wholes y e).0.1 is };
        multiplies = λ is. record {
          low = (lows y e).0.1 (mul_low op is);
          high = (highs y e).0.1 (first_of_two _ (is_op op ops.U32Div) is);
          whole = (wholes y e).0.0.0.1 is;
        };
        multiplies_and_adds = λ is. record {
          low = (lows y e).1 (second_of_two (is_op op ops.U32Add3) _ is);
          high = (highs y e).1 is;
          whole = (wholes y e).0.0.1 is;
        };
        divides = λ is. record {
          quotient = (lows y e).0.1 (div_low op is);
          remainder = (highs y e).0.1 (second_of_two (is_op op ops.U32Mul) _ is);
          whole = (wholes y e).1 is;
        };
        one_way = one_way y e;
      };
    })
    (λ shows. shows.row.first & shows.row.second & shows.row.third
    & (λ y e. let m = shows.pair y e in (
      (
        λ is. (m.splits is).low,
        from_two _ _ (from_two _ _ (from_two _ _ (λ is. (m.adds is).low) (λ is. (m.subtracts is).low)) (λ is. (m.multiplies is).low))
            (λ is. (m.divides is).quotient),
      ),
      from_two _ _ (λ is. (m.adds_three is).low) (λ is. (m.multiplies_and_adds is).low),
    ))
    & (λ y e. let m = shows.pair y e in (
      (
        (((λ is. (m.splits is).high, λ is. (m.adds is).high), λ is. (m.adds_three is).high), λ is. (m.subtracts is).borrow),
        from_two _ _ (λ is. (m.multiplies is).high) (λ is. (m.divides is).remainder),
      ),
      λ is. (m.multiplies_and_adds is).high,
    ))
    & (λ y e. let m = shows.pair y e in (
      (
        (
          (((λ is. (m.splits is).whole, λ is. (m.adds is).whole), λ is. (m.adds_three is).whole), λ is. (m.multiplies is).whole),
          λ is. (m.multiplies_and_adds is).whole,
        ),
        λ is. (m.subtracts is).whole,
      ),
      λ is. (m.divides is).whole,
    ))
    & (λ y e. (shows.pair y e).one_way) & shows.row.remainder & tt)
  where
    x : List ℕ
    x = p.cur

    low : (j : ℕ) → slice_index x j < prime
    low = r.here.low
