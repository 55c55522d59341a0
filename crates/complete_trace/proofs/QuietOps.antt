-- What no operation of blocks does: it leaves no cell, tests no operand and has no limbs.
use Rattle.complete_rows.proofs.Words
use Words.{◌≡◌, ℕ, Bool, true, false, not, ◌&&◌, eqb, List, refl, sym, ap, ◌∙◌, arith, eqb-true, code_of, is_ordinary_op, leaves_of, Op, is_op, is_right}
use Words.{IsLimbRow, MovesLimbs, has_high_word, never, ordinary-below}
use Words.ops
use Rattle.std.proofs.Common.{ltb}
use Rattle.air_kit.specs.MainTuples.{count_of_limbs}
use Rattle.facts_main.specs.Limbs.{has_second, has_third}
use Rattle.facts_main.specs.Stack.{LeavesCells, tests_top, tests_two}
use Rattle.facts_steps.specs.Lookups.{LooksUpLimbs, LooksUpBits, is_bitwise}

gate : (t a : Bool) → not t && a ≡ false → t ≡ false → a ≡ false
gate true a e is = never is
gate false a e is = e

quiet : {A : Type 0} (op : Op) (test : Bool) → not (is_ordinary_op op) && test ≡ false → is_ordinary_op op ≡ false → test ≡ true → A
quiet op test e is set = never (sym set ∙ gate (is_ordinary_op op) test e is)

-- it is no operation that a span holds
pub apart : {A : Type 0} (op other : Op) → is_ordinary_op op ≡ false → is_ordinary_op other ≡ true → is_op op other ≡ true → A
apart op other is ordinary same =
    let code : code_of op ≡ code_of other = eqb-true (code_of op) (code_of other) same in
    never (sym ordinary ∙ ordinary-below other ∙ ap (λ n. ltb n 70) (sym code) ∙ sym (ordinary-below op) ∙ is)

no_right : (op : Op) → not (is_ordinary_op op) && is_right op ≡ false
no_right ops.Noop = refl
no_right op = refl

no_leaves : (op : Op) → not (is_ordinary_op op) && not (eqb (leaves_of op) 0) ≡ false
no_leaves ops.Noop = refl
no_leaves op = refl

no_top : (op : Op) → not (is_ordinary_op op) && tests_top op ≡ false
no_top ops.Noop = refl
no_top op = refl

no_two : (op : Op) → not (is_ordinary_op op) && tests_two op ≡ false
no_two ops.Noop = refl
no_two op = refl

no_second : (op : Op) → not (is_ordinary_op op) && has_second op ≡ false
no_second ops.Noop = refl
no_second op = refl

no_third : (op : Op) → not (is_ordinary_op op) && has_third op ≡ false
no_third ops.Noop = refl
no_third op = refl

no_high : (op : Op) → not (is_ordinary_op op) && has_high_word op ≡ false
no_high ops.Noop = refl
no_high op = refl

no_limbs : (op : Op) → not (is_ordinary_op op) && not (eqb (count_of_limbs op) 0) ≡ false
no_limbs ops.Noop = refl
no_limbs op = refl

no_bits : (op : Op) → not (is_ordinary_op op) && is_bitwise op ≡ false
no_bits ops.Noop = refl
no_bits op = refl

pub right_off : (op : Op) → is_ordinary_op op ≡ false → is_right op ≡ false
right_off op is = gate (is_ordinary_op op) (is_right op) (no_right op) is

not_false : (t : Bool) → not t ≡ false → t ≡ true
not_false true e = refl
not_false false e = never e

pub leaves_none : (op : Op) → is_ordinary_op op ≡ false → leaves_of op ≡ 0
leaves_none op is =
    eqb-true (leaves_of op) 0 (not_false (eqb (leaves_of op) 0) (gate (is_ordinary_op op) (not (eqb (leaves_of op) 0)) (no_leaves op) is))

pub limbs_none : (op : Op) → is_ordinary_op op ≡ false → count_of_limbs op ≡ 0
limbs_none op is =
    eqb-true (count_of_limbs op) 0 (not_false (eqb (count_of_limbs op) 0) (gate (is_ordinary_op op) (not (eqb (count_of_limbs op) 0)) (no_limbs op) is))

pub top_off : {A : Type 0} (op : Op) → is_ordinary_op op ≡ false → tests_top op ≡ true → A
top_off op is = quiet op (tests_top op) (no_top op) is

pub two_off : {A : Type 0} (op : Op) → is_ordinary_op op ≡ false → tests_two op ≡ true → A
two_off op is = quiet op (tests_two op) (no_two op) is

pub leaves_cells : (op : Op) (x y : List ℕ) → is_ordinary_op op ≡ false → LeavesCells op x y
leaves_cells op x y is = record {
  cells = λ fixed j low. (let none = leaves_none op is in absurd (omega (arith, none, low)));
  not_zero = λ e. apart op ops.Eqz is refl e;
  not_same = λ e. apart op ops.Eq is refl e;
  inverted = λ e. apart op ops.Inv is refl e;
}

pub limb_row : (op : Op) (x : List ℕ) → is_ordinary_op op ≡ false → IsLimbRow op x
limb_row op x is = record {
  first = quiet op (has_second op) (no_second op) is;
  second = quiet op (has_second op) (no_second op) is;
  third = quiet op (has_third op) (no_third op) is;
  remainder = λ e. apart op ops.U32Div is refl e;
}

pub limb_pair : (op : Op) (x y : List ℕ) → is_ordinary_op op ≡ false → MovesLimbs op x y
limb_pair op x y is = record {
  splits = λ e. apart op ops.U32Split is refl e;
  adds = λ e. apart op ops.U32Add is refl e;
  adds_three = λ e. apart op ops.U32Add3 is refl e;
  subtracts = λ e. apart op ops.U32Sub is refl e;
  multiplies = λ e. apart op ops.U32Mul is refl e;
  multiplies_and_adds = λ e. apart op ops.U32MAdd is refl e;
  divides = λ e. apart op ops.U32Div is refl e;
  one_way = quiet op (has_high_word op) (no_high op) is;
}

pub ranges : (op : Op) (x : List ℕ) → is_ordinary_op op ≡ false → LooksUpLimbs op x
ranges op x is j low = (let none = limbs_none op is in absurd (omega (arith, none, low)))

pub bits : (op : Op) (x y : List ℕ) → is_ordinary_op op ≡ false → LooksUpBits op x y
bits op x y is = record {
  top = quiet op (is_bitwise op) (no_bits op) is;
  second = quiet op (is_bitwise op) (no_bits op) is;
  conjunction = λ e. apart op ops.U32And is refl e;
  difference = λ e. apart op ops.U32Xor is refl e;
}
