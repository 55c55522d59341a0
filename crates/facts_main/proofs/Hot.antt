-- The flags of a row that has an operation, as tests on the operation.
use Rattle.facts_main.proofs.Words.{◌≡◌, ℕ, Bool, cond, List, sym, ap, ◌∙◌, arith, nat_tests, Op, Flags, flag, flags_of, is_op, one_hot, HasOp, RowEntry}
use Rattle.facts_main.proofs.Words.{PairEntry, flags_of-hot}
use mathlib.Core.Path.{fun_ext}
use Rattle.facts_main.proofs.Says.{Says, says_of}

abbrev pub hot : Op → Flags
hot op other = cond (is_op op other) 1 0

turned : (op other : Op) → one_hot op other ≡ hot op other
turned op other = grind (arith, nat_tests)

pub one_hot_is : (op : Op) → one_hot op ≡ hot op
one_hot_is op = fun_ext (turned op)

pub hot_is : {x : List ℕ} {op : Op} → HasOp x op → flag x ≡ hot op
hot_is {op = op} has = fun_ext has.flags ∙ one_hot_is op

-- the flags of a set
pub set_is : (op : Op) (test : Op → Bool) → flags_of test (hot op) ≡ cond (test op) 1 0
set_is op test = ap (flags_of test) (sym (one_hot_is op)) ∙ flags_of-hot op test

pub row_says : {x : List ℕ} {op : Op} {P : Type 0} (entry : RowEntry) → HasOp x op → Says (entry (hot op) x) P → Says (entry (flag x) x) P
row_says {x = x} entry has s = says_of (ap (λ fl. entry fl x) (hot_is has)) s

pub pair_says : {x y : List ℕ} {op next : Op} {P : Type 0} (entry : PairEntry) → HasOp x op → HasOp y next → Says (entry (hot op) (hot next) x y) P
    → Says (entry (flag x) (flag y) x y) P
pair_says {x = x} {y = y} {op = op} entry has has_next s =
    says_of (ap (λ fl. entry fl (flag y) x y) (hot_is has) ∙ ap (λ gl. entry (hot op) gl x y) (hot_is has_next)) s
