-- Where the row's operation has no operands to test, the entries of operands are 0.
use Rattle.std.proofs.Common.{◌≡◌, ℕ, Bool, true, false, IsTrue, not, eqb, List, Option, Some, None, refl, sym, ap, ◌∙◌, inl, inr, zero-mul}
use Rattle.std.proofs.lemmas.Bool.{cases_Bool, eqb-true}
use Rattle.vm_ops.specs.Codes.{code_of}
use Rattle.vm_ops.specs.declared.op.Op.{Op}
use Rattle.vm_ops.specs.declared.op.Op.TheVariants as ops
use Rattle.vm_ops.proofs.CodeLemmas.{code_of-different}
use Rattle.air_kit.specs.Flags.{Flags, HasOp, flag, one_hot}
use Rattle.air_kit.specs.Places.{PairEntry, Spot, between, first_fault_of}
use Rattle.air_kit.specs.StackValues.{entry_135, entry_136, entry_137, entry_138, entry_139, operand_values}
use Rattle.air_stack.specs.Parts.{has_operands, HasNoOperands}

other_flag : (op other : Op) → has_operands op ≡ false → has_operands other ≡ true → one_hot op other ≡ 0
other_flag op other out is_in =
    elim (cases_Bool (eqb (code_of other) (code_of op))) [
      | inl same ↦
          let e : other ≡ op = code_of-different other op (eqb-true (code_of other) (code_of op) same) in
          let clash : true ≡ false = sym is_in ∙ ap has_operands e ∙ out in absurd (cc)
      | inr apart ↦ rw apart refl
    ]

-- a row of an operation without such operands
pub no_operands : (x : List ℕ) (op : Op) → HasOp x op → has_operands op ≡ false → HasNoOperands (flag x)
no_operands x op has out = λ other is_in. has.flags other ∙ other_flag op other out is_in

off_135 : (fl gl : Flags) (x y : List ℕ) → HasNoOperands fl → entry_135 fl gl x y ≡ 0
unfolding entry_135
off_135 fl gl x y n = rw (n ops.Eqz refl) (simp zero-mul)

off_136 : (fl gl : Flags) (x y : List ℕ) → HasNoOperands fl → entry_136 fl gl x y ≡ 0
unfolding entry_136
off_136 fl gl x y n = rw (n ops.Eq refl) (simp zero-mul)

off_137 : (fl : Flags) (x : List ℕ) → HasNoOperands fl → entry_137 fl x ≡ 0
unfolding entry_137
off_137 fl x n = rw (n ops.Not refl, n ops.And refl, n ops.Or refl, n ops.CSwap refl, n ops.CSwapW refl) (simp zero-mul)

off_138 : (fl : Flags) (x : List ℕ) → HasNoOperands fl → entry_138 fl x ≡ 0
unfolding entry_138
off_138 fl x n = rw (n ops.And refl, n ops.Or refl) (simp zero-mul)

off_139 : (fl : Flags) (x : List ℕ) → HasNoOperands fl → entry_139 fl x ≡ 0
unfolding entry_139
off_139 fl x n = rw (n ops.Assert refl) (simp zero-mul)

pair_off : (entry : PairEntry) (x : List ℕ) (next : Option (List ℕ)) → ((y : List ℕ) → entry (flag x) (flag y) x y ≡ 0)
    → between entry x next ≡ 0
pair_off entry x None off = refl
pair_off entry x (Some y) off = off y

-- no entry has a fault there
pub no_fault : (p : Spot) → HasNoOperands (flag p.cur) → first_fault_of 135 (operand_values p) ≡ None
unfolding operand_values
no_fault p n =
    rw (
      pair_off entry_135 p.cur p.next (λ y. off_135 (flag p.cur) (flag y) p.cur y n),
      pair_off entry_136 p.cur p.next (λ y. off_136 (flag p.cur) (flag y) p.cur y n),
      off_137 (flag p.cur) p.cur n,
      off_138 (flag p.cur) p.cur n,
      off_139 (flag p.cur) p.cur n,
    )
    refl

pub not_so : (test holds : Bool) → test ≡ holds → IsTrue (not test) → holds ≡ false
not_so true holds e t = absurd (cc)
not_so false holds e t = sym e
