-- Where the row's operation has no limbs, all entries are 0.
use Rattle.std.proofs.Common.{◌≡◌, ℕ, ◌%◌, Bool, true, false, IsTrue, not, eqb, List, Option, Some, None, refl, sym, ap, ◌∙◌, inl, inr, zero-mul}
use Rattle.std.proofs.lemmas.Bool.{cases_Bool, eqb-true}
use Rattle.vm_field.specs.Field.{prime, felt_mul}
use Rattle.vm_ops.specs.Codes.{code_of}
use Rattle.vm_ops.specs.declared.op.Op.{Op}
use Rattle.vm_ops.specs.declared.op.Op.TheVariants as ops
use Rattle.vm_ops.proofs.CodeLemmas.{code_of-different}
use Rattle.air_kit.specs.Flags.{Flags, HasOp, flag, one_hot}
use Rattle.air_kit.specs.Places.{PairEntry, Spot, between, first_fault_of}
use Rattle.air_kit.specs.U32Values.{takes_two, takes_three, entry_140, entry_141, entry_142, entry_143, entry_144, entry_145, entry_146, entry_147, u32_values}
use Rattle.air_u32.specs.Limbs.{has_limbs, HasNoLimbs}

other_flag : (op other : Op) → has_limbs op ≡ false → has_limbs other ≡ true → one_hot op other ≡ 0
other_flag op other out is_in =
    elim (cases_Bool (eqb (code_of other) (code_of op))) [
      | inl same ↦
          let e : other ≡ op = code_of-different other op (eqb-true (code_of other) (code_of op) same) in
          let clash : true ≡ false = sym is_in ∙ ap has_limbs e ∙ out in absurd (cc)
      | inr apart ↦ rw apart refl
    ]

-- a row of an operation without limbs
pub no_limbs : (x : List ℕ) (op : Op) → HasOp x op → has_limbs op ≡ false → HasNoLimbs (flag x)
no_limbs x op has out = λ other is_in. has.flags other ∙ other_flag op other out is_in

zero_times : (a : ℕ) → felt_mul 0 a ≡ 0
zero_times a = ap (λ n. n % prime) (zero-mul a)

no_two : (fl : Flags) → HasNoLimbs fl → takes_two fl ≡ 0
unfolding takes_two
no_two fl n =
    rw (
      n ops.U32Add refl,
      n ops.U32Sub refl,
      n ops.U32Mul refl,
      n ops.U32Div refl,
      n ops.U32Assert2 refl,
      n ops.U32Add3 refl,
      n ops.U32MAdd refl,
    ) refl

no_three : (fl : Flags) → HasNoLimbs fl → takes_three fl ≡ 0
unfolding takes_three
no_three fl n = rw (n ops.U32Add3 refl, n ops.U32MAdd refl) refl

off_140 : (fl : Flags) (x : List ℕ) → HasNoLimbs fl → entry_140 fl x ≡ 0
unfolding entry_140
off_140 fl x n = rw (no_two fl n) (zero_times _)

off_141 : (fl : Flags) (x : List ℕ) → HasNoLimbs fl → entry_141 fl x ≡ 0
unfolding entry_141
off_141 fl x n = rw (no_two fl n) (zero_times _)

off_142 : (fl : Flags) (x : List ℕ) → HasNoLimbs fl → entry_142 fl x ≡ 0
unfolding entry_142
off_142 fl x n = rw (no_three fl n) (zero_times _)

off_143 : (fl gl : Flags) (x y : List ℕ) → HasNoLimbs fl → entry_143 fl gl x y ≡ 0
unfolding entry_143
off_143 fl gl x y n =
    rw (n ops.U32Split refl, n ops.U32Add refl, n ops.U32Sub refl, n ops.U32Mul refl, n ops.U32Div refl, no_three fl n) (simp zero-mul)

off_144 : (fl gl : Flags) (x y : List ℕ) → HasNoLimbs fl → entry_144 fl gl x y ≡ 0
unfolding entry_144
off_144 fl gl x y n =
    rw (n ops.U32Split refl, n ops.U32Add refl, n ops.U32Add3 refl, n ops.U32Sub refl, n ops.U32Mul refl, n ops.U32Div refl, n ops.U32MAdd refl)
    (simp zero-mul)

off_145 : (fl gl : Flags) (x y : List ℕ) → HasNoLimbs fl → entry_145 fl gl x y ≡ 0
unfolding entry_145
off_145 fl gl x y n =
    rw (n ops.U32Split refl, n ops.U32Add refl, n ops.U32Add3 refl, n ops.U32Mul refl, n ops.U32MAdd refl, n ops.U32Sub refl, n ops.U32Div refl)
    (simp zero-mul)

off_146 : (fl gl : Flags) (x y : List ℕ) → HasNoLimbs fl → entry_146 fl gl x y ≡ 0
unfolding entry_146
off_146 fl gl x y n = rw (n ops.U32Split refl, n ops.U32Mul refl, n ops.U32MAdd refl) (simp zero-mul)

off_147 : (fl : Flags) (x : List ℕ) → HasNoLimbs fl → entry_147 fl x ≡ 0
unfolding entry_147
off_147 fl x n = rw (n ops.U32Div refl) (zero_times _)

pair_off : (entry : PairEntry) (x : List ℕ) (next : Option (List ℕ)) → ((y : List ℕ) → entry (flag x) (flag y) x y ≡ 0)
    → between entry x next ≡ 0
pair_off entry x None off = refl
pair_off entry x (Some y) off = off y

-- no entry has a fault there
pub no_fault : (p : Spot) → HasNoLimbs (flag p.cur) → first_fault_of 140 (u32_values p) ≡ None
unfolding u32_values
no_fault p n =
    rw (
      off_140 (flag p.cur) p.cur n,
      off_141 (flag p.cur) p.cur n,
      off_142 (flag p.cur) p.cur n,
      pair_off entry_143 p.cur p.next (λ y. off_143 (flag p.cur) (flag y) p.cur y n),
      pair_off entry_144 p.cur p.next (λ y. off_144 (flag p.cur) (flag y) p.cur y n),
      pair_off entry_145 p.cur p.next (λ y. off_145 (flag p.cur) (flag y) p.cur y n),
      pair_off entry_146 p.cur p.next (λ y. off_146 (flag p.cur) (flag y) p.cur y n),
      off_147 (flag p.cur) p.cur n,
    )
    refl

pub not_so : (test holds : Bool) → test ≡ holds → IsTrue (not test) → holds ≡ false
not_so true holds e t = absurd (cc)
not_so false holds e t = sym e
