-- Cases of numbers, of tests on numbers and on operations.
use Rattle.sound_buses.proofs.Words.{◌≡◌, ◌≢◌, ℕ, ◌+◌, ◌<◌, ◌⊎◌, true, false, arith, eqb-true, code_of, Op, is_op}
use Rattle.std.proofs.lemmas.Bool.{false_from_ne_true}
use Rattle.vm_ops.proofs.CodeLemmas.{code_of-different}

pub zero_or : (k : ℕ) → (0 < k) ⊎ (k ≡ 0)
zero_or k = grind arith

pub positive_part : (i k : ℕ) → 0 < i + k → (0 < i) ⊎ (0 < k)
positive_part i k h = grind arith

-- an operation by the test on its code
pub op_from : {op other : Op} → is_op op other ≡ true → op ≡ other
op_from {op} {other} h = code_of-different op other (eqb-true (code_of op) (code_of other) h)

pub not_op : (op other : Op) → op ≢ other → is_op op other ≡ false
not_op op other apart = false_from_ne_true (is_op op other) (λ is. apart (op_from is))
