-- What an operation needs of its operands stands where it does not trap.
use Rattle.facts_steps.proofs.Words
use Words.{◌≡◌, ◌≢◌, ℕ, ◌^◌, ◌<◌, Bool, true, false, ◌&&◌, not, eqb, nat_lt, List, Option, Some, None, refl, accesses_memory, trap_of, unless, or_else, Cause}
use Words.{Op, sys, s, is_op, cells, seen_of, off, has_third, tests_top, tests_two}
use Words.ops
use Rattle.std.proofs.lemmas.Bool.{and_parts, eqb-true, eqb-false, ltb-true, not-true}
use Rattle.vm_ops.specs.declared.cause.Cause.TheVariants.{NotBinary, ZeroInverse, AddressRange, NotInSyscall, NotU32, DivideByZero, AssertFailed}
use Rattle.facts_steps.proofs.Tests.{at_op}
use Rattle.facts_steps.proofs.Traps.{Runs, takes_words}

holds : (u : Bool) (cause : Cause) → unless u cause ≡ None → u ≡ true
holds true cause e = refl
holds false cause e = absurd (let none : ⊥ = cc in none)

one_low : {a n : ℕ} (cause : Cause) → unless (nat_lt a n) cause ≡ None → a < n
one_low {a = a} {n = n} cause e = ltb-true a n (holds (nat_lt a n) cause e)

two_low : {a b n : ℕ} (cause : Cause) → unless (nat_lt a n && nat_lt b n) cause ≡ None → (a < n) × (b < n)
two_low {a = a} {b = b} {n = n} cause e =
    let both = and_parts (nat_lt a n) (nat_lt b n) (holds (nat_lt a n && nat_lt b n) cause e) in (ltb-true a n both.0, ltb-true b n both.1)

three_low : {a b c n : ℕ} (cause : Cause) → unless (nat_lt a n && nat_lt b n && nat_lt c n) cause ≡ None → (a < n) × (b < n) × (c < n)
three_low {a = a} {b = b} {c = c} {n = n} cause e =
    let all = and_parts (nat_lt a n && nat_lt b n) (nat_lt c n) (holds (nat_lt a n && nat_lt b n && nat_lt c n) cause e) in
    let both = and_parts (nat_lt a n) (nat_lt b n) all.0 in (ltb-true a n both.0, ltb-true b n both.1, ltb-true c n all.1)

not_zero : (a : ℕ) (cause : Cause) → unless (not (eqb a 0)) cause ≡ None → a ≢ 0
not_zero a cause e = eqb-false a 0 (not-true (eqb a 0) (holds (not (eqb a 0)) cause e))

first_cause : (o later : Option Cause) → or_else o later ≡ None → o ≡ None
first_cause None later e = refl
first_cause (Some cause) later e = e

later_cause : (o later : Option Cause) → or_else o later ≡ None → later ≡ None
later_cause None later e = e
later_cause (Some cause) later e = absurd (let none : ⊥ = cc in none)

module _ (x : List ℕ) where
  free_bits : (op : Op) → trap_of op (seen_of x) ≡ None → tests_two op ≡ true → (s x 0 < 2) × (s x 1 < 2)
  unfolding trap_of seen_of cells
  free_bits ops.And e is = two_low NotBinary e
  free_bits ops.Or e is = two_low NotBinary e
  free_bits op e is = off is

  free_bit : (op : Op) → trap_of op (seen_of x) ≡ None → tests_top op ≡ true → s x 0 < 2
  unfolding trap_of seen_of cells
  free_bit ops.Not e is = one_low NotBinary e
  free_bit ops.CSwap e is = one_low NotBinary e
  free_bit ops.CSwapW e is = one_low NotBinary e
  free_bit ops.And e is = (free_bits ops.And e refl).0
  free_bit ops.Or e is = (free_bits ops.Or e refl).0
  free_bit op e is = off is

  free_address : (op : Op) → trap_of op (seen_of x) ≡ None → accesses_memory op ≡ true → s x 0 < 2 ^ 32
  unfolding trap_of seen_of cells
  free_address ops.MLoad e is = one_low AddressRange e
  free_address ops.MLoadW e is = one_low AddressRange e
  free_address ops.MStore e is = one_low AddressRange e
  free_address ops.MStoreW e is = one_low AddressRange e
  free_address op e is = off is

  free_three : (op : Op) → trap_of op (seen_of x) ≡ None → has_third op ≡ true → (s x 0 < 2 ^ 32) × (s x 1 < 2 ^ 32) × (s x 2 < 2 ^ 32)
  unfolding trap_of seen_of cells
  free_three ops.U32Add3 e is = three_low NotU32 e
  free_three ops.U32MAdd e is = three_low NotU32 e
  free_three op e is = off is

  free_words : (op : Op) → trap_of op (seen_of x) ≡ None → takes_words op ≡ true → (s x 0 < 2 ^ 32) × (s x 1 < 2 ^ 32)
  unfolding trap_of seen_of cells
  free_words ops.U32Add e is = two_low NotU32 e
  free_words ops.U32Sub e is = two_low NotU32 e
  free_words ops.U32Mul e is = two_low NotU32 e
  free_words ops.U32Div e is = two_low NotU32 (first_cause _ (unless (not (eqb (s x 0) 0)) DivideByZero) e)
  free_words ops.U32Assert2 e is = two_low NotU32 e
  free_words ops.U32And e is = two_low NotU32 e
  free_words ops.U32Xor e is = two_low NotU32 e
  free_words ops.U32Add3 e is = let all = free_three ops.U32Add3 e refl in (all.0, all.1)
  free_words ops.U32MAdd e is = let all = free_three ops.U32MAdd e refl in (all.0, all.1)
  free_words op e is = off is

  free_inverse : trap_of ops.Inv (seen_of x) ≡ None → s x 0 ≢ 0
  unfolding trap_of seen_of cells
  free_inverse e = not_zero (s x 0) ZeroInverse e

  free_divisor : trap_of ops.U32Div (seen_of x) ≡ None → s x 0 ≢ 0
  unfolding trap_of seen_of cells
  free_divisor e =
      not_zero (s x 0) DivideByZero
      (later_cause (unless (nat_lt (s x 0) (2 ^ 32) && nat_lt (s x 1) (2 ^ 32)) NotU32) (unless (not (eqb (s x 0) 0)) DivideByZero) e)

  free_asserted : trap_of ops.Assert (seen_of x) ≡ None → s x 0 ≡ 1
  unfolding trap_of seen_of cells
  free_asserted e = eqb-true (s x 0) 1 (holds (eqb (s x 0) 1) AssertFailed e)

  free_inside : trap_of ops.Caller (seen_of x) ≡ None → sys x ≡ 1
  unfolding trap_of seen_of cells
  free_inside e = eqb-true (sys x) 1 (holds (eqb (sys x) 1) NotInSyscall e)

pub free_runs : (op : Op) (x : List ℕ) → trap_of op (seen_of x) ≡ None → Runs op x
free_runs op x e = record {
  invertible = λ is. free_inverse x (at ops.Inv is);
  divisor = λ is. free_divisor x (at ops.U32Div is);
  bit = free_bit x op e;
  second_bit = λ is. (free_bits x op e is).1;
  asserted = λ is. free_asserted x (at ops.Assert is);
  inside = λ is. free_inside x (at ops.Caller is);
  address = free_address x op e;
  first = λ is. (free_words x op e is).0;
  second = λ is. (free_words x op e is).1;
  third = λ is. (free_three x op e is).2;
}
  where
    at : (other : Op) → is_op op other ≡ true → trap_of other (seen_of x) ≡ None
    at other is = at_op (λ o. trap_of o (seen_of x) ≡ None) op other is e
