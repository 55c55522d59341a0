-- Where an operation does not trap, for what it needs of its operands stands.
use Rattle.facts_steps.proofs.Words
use Words.{◌≡◌, ◌≢◌, ℕ, ◌^◌, ◌<◌, Bool, true, ◌||◌, not, eqb, nat_lt, List, None, refl, ap, accesses_memory, trap_of, Op, sys, s, is_op}
use Words.{cells, seen_of, has_second, has_third, tests_top, tests_two, is_bitwise}
use Words.ops
use Rattle.std.proofs.lemmas.Bool.{lt-ltb, ne_eqb}

-- two operands of 32 bits
abbrev pub takes_words : Op → Bool
takes_words op = has_second op || is_bitwise op

-- what the operation needs of its row
pub record Runs (op : Op) (x : List ℕ) : Type 0 where
  pub invertible : is_op op ops.Inv ≡ true → s x 0 ≢ 0
  pub divisor : is_op op ops.U32Div ≡ true → s x 0 ≢ 0
  pub bit : tests_top op ≡ true → s x 0 < 2
  pub second_bit : tests_two op ≡ true → s x 1 < 2
  pub asserted : is_op op ops.Assert ≡ true → s x 0 ≡ 1
  pub inside : is_op op ops.Caller ≡ true → sys x ≡ 1
  pub address : accesses_memory op ≡ true → s x 0 < 2 ^ 32
  pub first : takes_words op ≡ true → s x 0 < 2 ^ 32
  pub second : takes_words op ≡ true → s x 1 < 2 ^ 32
  pub third : has_third op ≡ true → s x 2 < 2 ^ 32

is_less : {i n : ℕ} → i < n → nat_lt i n ≡ true
is_less {i = i} {n = n} h = lt-ltb i n h

is_other : {i n : ℕ} → i ≢ n → not (eqb i n) ≡ true
is_other {i = i} {n = n} h = ap not (ne_eqb i n h)

pub runs_free : (op : Op) (x : List ℕ) → Runs op x → trap_of op (seen_of x) ≡ None
unfolding trap_of seen_of cells
runs_free ops.Inv x r = rw (is_other (r.invertible refl)) refl
runs_free ops.Not x r = rw (is_less (r.bit refl)) refl
runs_free ops.MLoad x r = rw (is_less (r.address refl)) refl
runs_free ops.Caller x r = rw (r.inside refl) refl
runs_free ops.U32Add x r = rw (is_less (r.first refl), is_less (r.second refl)) refl
runs_free ops.U32Sub x r = rw (is_less (r.first refl), is_less (r.second refl)) refl
runs_free ops.U32Mul x r = rw (is_less (r.first refl), is_less (r.second refl)) refl
runs_free ops.U32Div x r = rw (is_less (r.first refl), is_less (r.second refl), is_other (r.divisor refl)) refl
runs_free ops.U32Assert2 x r = rw (is_less (r.first refl), is_less (r.second refl)) refl
runs_free ops.Assert x r = rw (r.asserted refl) refl
runs_free ops.And x r = rw (is_less (r.bit refl), is_less (r.second_bit refl)) refl
runs_free ops.Or x r = rw (is_less (r.bit refl), is_less (r.second_bit refl)) refl
runs_free ops.U32And x r = rw (is_less (r.first refl), is_less (r.second refl)) refl
runs_free ops.U32Xor x r = rw (is_less (r.first refl), is_less (r.second refl)) refl
runs_free ops.CSwap x r = rw (is_less (r.bit refl)) refl
runs_free ops.CSwapW x r = rw (is_less (r.bit refl)) refl
runs_free ops.MLoadW x r = rw (is_less (r.address refl)) refl
runs_free ops.MStore x r = rw (is_less (r.address refl)) refl
runs_free ops.MStoreW x r = rw (is_less (r.address refl)) refl
runs_free ops.U32Add3 x r = rw (is_less (r.first refl), is_less (r.second refl), is_less (r.third refl)) refl
runs_free ops.U32MAdd x r = rw (is_less (r.first refl), is_less (r.second refl), is_less (r.third refl)) refl
runs_free op x r = refl
