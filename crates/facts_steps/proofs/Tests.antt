-- What tests say of an operation.
use Rattle.facts_steps.proofs.Words.{◌≡◌, Bool, true, false, ◌||◌, refl, subst, Op, is_op}
use Rattle.std.proofs.lemmas.Bool.{eqb-true}
use Rattle.vm_ops.proofs.CodeLemmas.{code_of-different}
use Rattle.vm_ops.specs.Codes.{code_of}

-- what is so of an operation is so of the one that it is
pub at_op : (P : Op → Type 0) (op other : Op) → is_op op other ≡ true → P op → P other
at_op P op other is = subst P (code_of-different op other (eqb-true (code_of op) (code_of other) is))

pub or_off : {a b : Bool} → a ≡ false → b ≡ false → a || b ≡ false
or_off e f = rw (e, f) refl

pub or_none : {a b : Bool} → b ≡ false → a || b ≡ a
or_none {a = true} e = refl
or_none {a = false} e = e

pub or_second : (a : Bool) {b : Bool} → b ≡ true → a || b ≡ true
or_second true e = refl
or_second false e = e
