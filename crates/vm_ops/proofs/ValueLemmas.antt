-- What an operation leaves is made of elements.
use Rattle.std.proofs.Common.{◌≡◌, ◌≢◌, ℕ, ◌+◌, ◌-◌, ◌*◌, ◌/◌, ◌%◌, ◌^◌, ◌<◌, ◌≤◌, ◌==◌, ◌&&◌, not, Bool, true, false, [], ◌∷◌, ◌++◌, take, drop, reverse, length, Option, Some, None, refl, arith, nat_lt, lit<}
use Rattle.std.proofs.lemmas.Bool.{ltb-true, eqb-false}
use Rattle.std.proofs.lemmas.List.{length-drop, length-reverse, length-take-le}
use Rattle.std.proofs.lemmas.Nat.{and_le_r, xor_of_32}
use Rattle.std.proofs.Math.Nat.{div-le_self, mul-le-mul_left, mul-le-mul_right}
use Rattle.std.specs.Option.{MatchOption}
use Rattle.vm_field.proofs.Elements.{elements-append, elements-cons, elements-drop, elements-index, elements-none, elements-one, elements-picked, elements-reverse, elements-take, elements-two, elements-cond}
use Rattle.vm_field.proofs.Inverses.{felt_inv-below}
use Rattle.vm_field.proofs.PermutationLemmas.{elements-permuted}
use Rattle.vm_field.specs.Field.{prime, AreElements, felt_inv}
use Rattle.vm_field.specs.Machine.{IsWord}
use Rattle.vm_ops.specs.declared.cause.Cause.{Cause}
use Rattle.vm_ops.specs.declared.op.Op.{Op}
use Rattle.vm_ops.specs.declared.op.Op.TheVariants as ops
use Rattle.vm_ops.specs.Moves.{sources_of}
use Rattle.vm_ops.specs.Sizes.{IsSeenBy, IsMadeOfElements}
use Rattle.vm_ops.specs.Step.{left_cells}
use Rattle.vm_ops.specs.Values.{Seen, cell, bit_of, two_words, computed, fmp_after, written, is_u32, unless, or_else, two_u32, three_u32, trap_of}

bit_of-below : (b : Bool) → bit_of b < prime
bit_of-below true = lit< tt
bit_of-below false = lit< tt

elements-two_words : (n : ℕ) → n < 2 ^ 64 → AreElements (two_words n)
elements-two_words n h = elements-two (n / 2 ^ 32) (n % 2 ^ 32) (omega arith) (omega arith)

-- tests that hold where there is no cause
holds : (test : Bool) (cause : Cause) → unless test cause ≡ None → test ≡ true
holds true cause e = refl
holds false cause e = cc

both_hold : (a b : Bool) (cause : Cause) → unless (a && b) cause ≡ None → (a ≡ true) × (b ≡ true)
both_hold true b cause e = (refl, holds b cause e)
both_hold false b cause e = cc

neither_cause : (o p : Option Cause) → or_else o p ≡ None → (o ≡ None) × (p ≡ None)
neither_cause None p e = (refl, e)
neither_cause (Some cause) p e = cc

other : (a : Bool) → not a ≡ true → a ≡ false
other true e = cc
other false e = refl

-- the operands of an operation on two numbers of 32 bits
pub two_u32-fit : (s : Seen) → two_u32 s ≡ None → (cell s 0 < 2 ^ 32) × (cell s 1 < 2 ^ 32)
two_u32-fit s e =
    let tests = both_hold (is_u32 (cell s 0)) (is_u32 (cell s 1)) _ e in
    (ltb-true (cell s 0) (2 ^ 32) tests.0, ltb-true (cell s 1) (2 ^ 32) tests.1)

pub three_u32-fit : (s : Seen) → three_u32 s ≡ None → (cell s 0 < 2 ^ 32) × (cell s 1 < 2 ^ 32) × (cell s 2 < 2 ^ 32)
three_u32-fit s e =
    let tests = both_hold (is_u32 (cell s 0) && is_u32 (cell s 1)) (is_u32 (cell s 2)) _ e in
    let first = both_true (is_u32 (cell s 0)) (is_u32 (cell s 1)) tests.0 in
    (ltb-true (cell s 0) (2 ^ 32) first.0, ltb-true (cell s 1) (2 ^ 32) first.1, ltb-true (cell s 2) (2 ^ 32) tests.1)
  where
    both_true : (a b : Bool) → a && b ≡ true → (a ≡ true) × (b ≡ true)
    both_true true b h = (refl, h)
    both_true false b h = cc

product-below : (a b : ℕ) → a < 2 ^ 32 → b < 2 ^ 32 → a * b ≤ (2 ^ 32 - 1) * (2 ^ 32 - 1)
product-below a b h k =
    let most : ℕ = 2 ^ 32 - 1 in
    let first : a ≤ most = omega arith in
    let second : b ≤ most = omega arith in
    let left : a * b ≤ a * most = mul-le-mul_left a second in
    let right : a * most ≤ most * most = mul-le-mul_right most first in
    omega (arith, left, right)

elements-quotient : (a b : ℕ) → a < 2 ^ 32 → b < 2 ^ 32 → b ≢ 0 → AreElements (a % b ∷ a / b ∷ [])
elements-quotient a b h k some =
    let small : a / b ≤ a = div-le_self a b in elements-two (a % b) (a / b) (omega arith) (omega arith)

pub elements-computed : (op : Op) (s : Seen) → IsSeenBy op s → IsMadeOfElements s → trap_of op s ≡ None → AreElements (computed op s)
unfolding computed trap_of
elements-computed ops.Eqz s h m free = elements-one (bit_of (cell s 0 == 0)) (bit_of-below (cell s 0 == 0))
elements-computed ops.Neg s h m free = elements-one _ (omega arith)
elements-computed ops.Inv s h m free =
    let some : cell s 0 ≢ 0 = eqb-false (cell s 0) 0 (other (cell s 0 == 0) (holds (not (cell s 0 == 0)) _ free)) in
    elements-one (felt_inv (cell s 0)) (felt_inv-below (cell s 0) (omega arith) (elements-index s.cells 0 m.cells))
elements-computed ops.Incr s h m free = elements-one _ (omega arith)
elements-computed ops.Not s h m free = elements-one _ (omega arith)
elements-computed ops.FmpAdd s h m free = elements-one _ (omega arith)
elements-computed ops.MLoad s h m free = elements-one _ (elements-index s.word 0 m.word)
elements-computed ops.Caller s h m free = elements-reverse s.digest m.digest
elements-computed ops.AdvPopW s h m free = elements-reverse s.advice m.advice
elements-computed ops.HPerm s h m free =
    let top : length (take 12 s.cells) ≡ 12 = length-take-le 12 s.cells (let count = h.cells in omega arith) in
    let turned : length (reverse (take 12 s.cells)) ≡ 12 = rw length-reverse top in
    elements-reverse _ (elements-permuted s.constants (reverse (take 12 s.cells)) h.constants turned)
elements-computed ops.U32Add s h m free =
    let small = two_u32-fit s free in elements-two_words (cell s 1 + cell s 0) (omega (arith, small.0, small.1))
elements-computed ops.U32Sub s h m free =
    elements-two (bit_of (nat_lt (cell s 1) (cell s 0))) _ (bit_of-below (nat_lt (cell s 1) (cell s 0))) (omega arith)
elements-computed ops.U32Mul s h m free =
    let small = two_u32-fit s free in
    let product = product-below (cell s 1) (cell s 0) small.1 small.0 in
    elements-two_words (cell s 1 * cell s 0) (omega (arith, product))
elements-computed ops.U32Div s h m free =
    let causes = neither_cause (two_u32 s) _ free in
    let small = two_u32-fit s causes.0 in
    elements-quotient (cell s 1) (cell s 0) small.1 small.0
    (eqb-false (cell s 0) 0 (other (cell s 0 == 0) (holds (not (cell s 0 == 0)) _ causes.1)))
elements-computed ops.Eq s h m free = elements-one _ (bit_of-below (cell s 0 == cell s 1))
elements-computed ops.Add s h m free = elements-one _ (omega arith)
elements-computed ops.Mul s h m free = elements-one _ (omega arith)
elements-computed ops.And s h m free = elements-one _ (omega arith)
elements-computed ops.Or s h m free = elements-one _ (omega arith)
elements-computed ops.U32And s h m free =
    let less = and_le_r (cell s 1) (cell s 0) in
    let top = elements-index s.cells 0 m.cells in
    elements-one _ (omega (arith, less, top))
elements-computed ops.U32Xor s h m free =
    let small = two_u32-fit s free in
    let less = xor_of_32 (cell s 1) (cell s 0) small.1 small.0 in
    elements-one _ (omega (arith, less))
elements-computed ops.CSwap s h m free =
    elements-cond (cell s 0 == 0) (cell s 1 ∷ cell s 2 ∷ []) (cell s 2 ∷ cell s 1 ∷ [])
    (elements-two (cell s 1) (cell s 2) (elements-index s.cells 1 m.cells) (elements-index s.cells 2 m.cells))
    (elements-two (cell s 2) (cell s 1) (elements-index s.cells 2 m.cells) (elements-index s.cells 1 m.cells))
elements-computed ops.CSwapW s h m free =
    elements-cond (cell s 0 == 0) (take 8 (drop 1 s.cells)) (take 4 (drop 5 s.cells) ++ take 4 (drop 1 s.cells))
    (elements-take 8 (drop 1 s.cells) (elements-drop 1 s.cells m.cells))
    (elements-append (take 4 (drop 5 s.cells)) (take 4 (drop 1 s.cells))
    (elements-take 4 (drop 5 s.cells) (elements-drop 5 s.cells m.cells))
    (elements-take 4 (drop 1 s.cells) (elements-drop 1 s.cells m.cells)))
elements-computed ops.MLoadW s h m free = elements-reverse s.word m.word
elements-computed ops.U32Add3 s h m free =
    let small = three_u32-fit s free in
    elements-two_words (cell s 2 + cell s 1 + cell s 0) (omega (arith, small.0, small.1, small.2))
elements-computed ops.U32MAdd s h m free =
    let small = three_u32-fit s free in
    let product = product-below (cell s 1) (cell s 0) small.1 small.0 in
    elements-two_words (cell s 1 * cell s 0 + cell s 2) (omega (arith, product, small.2))
elements-computed ops.Pad s h m free = elements-one 0 (lit< tt)
elements-computed ops.AdvPop s h m free = m.advice
elements-computed ops.SDepth s h m free = elements-one _ (omega arith)
elements-computed ops.Clk s h m free = elements-one _ (omega arith)
elements-computed ops.U32Split s h m free =
    let top = elements-index s.cells 0 m.cells in elements-two_words (cell s 0) (omega (arith, top))
elements-computed ops.Push s h m free = elements-one s.immediate m.immediate
elements-computed ops.Noop s h m free = elements-none
elements-computed _ s h m free = elements-none

pub elements-left_cells : (op : Op) (s : Seen) → IsSeenBy op s → IsMadeOfElements s → trap_of op s ≡ None → AreElements (left_cells op s)
unfolding left_cells
elements-left_cells op s h m free =
    elements-append (computed op s) _ (elements-computed op s h m free) (elements-picked s.cells (sources_of op) m.cells)

pub fmp_after-below : (op : Op) (s : Seen) → s.fmp < prime → fmp_after op s < prime
fmp_after-below ops.FmpUpdate s h = omega arith
fmp_after-below ops.Noop s h = h
fmp_after-below _ s h = h

-- what is written is a word
pub word-written : (op : Op) (s : Seen) → length s.word ≡ 4 → IsMadeOfElements s → MatchOption (written op s) (Unit {0}) IsWord
word-written ops.MStore s h m = record {
  size = (let later : length (drop 1 s.word) ≡ 3 = rw (length-drop, h) refl in omega arith);
  below = elements-cons (cell s 1) (drop 1 s.word) (elements-index s.cells 1 m.cells) (elements-drop 1 s.word m.word);
}
word-written ops.MStoreW s h m = record {
  size = refl;
  below = elements-append (cell s 4 ∷ cell s 3 ∷ []) (cell s 2 ∷ cell s 1 ∷ [])
      (elements-two (cell s 4) (cell s 3) (elements-index s.cells 4 m.cells) (elements-index s.cells 3 m.cells))
      (elements-two (cell s 2) (cell s 1) (elements-index s.cells 2 m.cells) (elements-index s.cells 1 m.cells));
}
word-written ops.Noop s h m = tt
word-written _ s h m = tt
