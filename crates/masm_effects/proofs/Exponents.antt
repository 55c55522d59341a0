-- The power of an element by the digits of the exponent, the highest first.
use Rattle.std.proofs.Common.{◌≡◌, ℕ, zero, suc, ◌+◌, ◌/◌, ◌%◌, ◌^◌, ◌<◌, Bool, true, false, cond, ◌==◌, List, [], ◌∷◌, ◌++◌, refl, sym, ◌∙◌, ap, arith, eqb-true, mul_comm, div-one, add-one, append_assoc}
use Rattle.std.proofs.lemmas.Bool.{eqb-false}
use Rattle.std.proofs.lemmas.List.{map-append}
use Rattle.std.proofs.lemmas.Nat.{shr-shr}
use Rattle.vm_field.specs.Field.{prime, felt_mul, felt_pow}
use Rattle.vm_field.specs.Machine.{State}
use Rattle.vm_field.proofs.PowerLaws.{power-add, power-suc, power-zero}
use Rattle.vm_ops.specs.Step.{left_cells}
use Rattle.vm_ops.specs.Values.{computed, trap_of}
use Rattle.vm_ops.specs.declared.item.Item.{Item}
use Rattle.vm_ops.specs.declared.op.Op.TheVariants as ops
use Rattle.masm_instr.specs.declared.name.Name.TheVariants as names
use Rattle.masm_effects.specs.Effects.{Effect, instr_effect, listed, top}
use Rattle.masm_expand.specs.Expansion.{exp_digits, expansion, front, plain}
use Rattle.masm_effects.proofs.Meeting.{Acts}
use Rattle.masm_effects.proofs.Quiets.{computes}
use Rattle.masm_effects.proofs.Ways.{MeetsAt}
use Rattle.masm_effects.proofs.Windows.{Window, last, trap, fits, window}

-- the window with the power so far on top
abbrev at : State → ℕ → ℕ → Window
at s turn v = record (window s) { turn = turn; cells = v ∷ listed 24 0 s.core.stack }

-- what a digit makes of the power
abbrev digit_value : Bool → Bool → ℕ → ℕ → ℕ
digit_value leading one a v = cond leading v (cond one (felt_mul a (felt_mul v v)) (felt_mul v v))

-- the digits down to this one make the number q
digit-power : (a q : ℕ) → digit_value (q == 0) (q % 2 == 1) a (felt_pow a (q / 2)) ≡ felt_pow a q
digit-power a q = go (q == 0) (q % 2 == 1) refl refl
  where
    squared : felt_pow a (q / 2 + q / 2) ≡ felt_mul (felt_pow a (q / 2)) (felt_pow a (q / 2))
    squared = power-add prime a (q / 2) (q / 2)

    go : (leading one : Bool) → (q == 0) ≡ leading → (q % 2 == 1) ≡ one → digit_value leading one a (felt_pow a (q / 2)) ≡ felt_pow a q
    go true one e f = let none = eqb-true q 0 e in ap (felt_pow a) (let half : q / 2 ≡ q = omega arith in half)
    go false true e f =
        let odd = eqb-true (q % 2) 1 f in
        let whole : q ≡ suc (q / 2 + q / 2) = omega arith in
        let more : felt_pow a (suc (q / 2 + q / 2)) ≡ felt_mul (felt_pow a (q / 2 + q / 2)) a = power-suc prime a (q / 2 + q / 2) in
        let turned : felt_mul (felt_pow a (q / 2 + q / 2)) a ≡ felt_mul a (felt_pow a (q / 2 + q / 2)) =
        ap (λ (n : ℕ). n % prime) (mul_comm (felt_pow a (q / 2 + q / 2)) a) in
        sym (ap (felt_pow a) whole ∙ (more ∙ (turned ∙ ap (felt_mul a) squared)))
    go false false e f =
        let even = eqb-false (q % 2) 1 f in
        let whole : q ≡ q / 2 + q / 2 = omega arith in
        sym (ap (felt_pow a) whole ∙ squared)

module _ {constants : List ℕ} {s : State} {e : Effect} where
  -- what stands behind a digit acts on the power that the digit makes
  digit-acts : (leading one : Bool) (items : List Item) (turn v : ℕ)
      → ((later : ℕ) → Acts constants items s e (at s later (digit_value leading one (top s 0) v)))
      → Acts constants (plain (cond leading [] (cond one (ops.Dup0 ∷ ops.Mul ∷ ops.Dup1 ∷ ops.Mul ∷ []) (ops.Dup0 ∷ ops.Mul ∷ []))) ++ items) s e
      (at s turn v)
  unfolding last trap fits left_cells computed trap_of
  digit-acts true one items turn v next = next turn
  digit-acts false true items turn v next =
      let then = next (suc (suc (suc (suc turn)))) in record { small = then.small; room = then.room; traps = then.traps; does = then.does }
  digit-acts false false items turn v next =
      let then = next (suc (suc turn)) in record { small = then.small; room = then.room; traps = then.traps; does = then.does }

  digits-act : (k q : ℕ) (items : List Item) (turn v : ℕ) → v ≡ felt_pow (top s 0) (q / 2 ^ k)
      → ((later : ℕ) → Acts constants items s e (at s later (felt_pow (top s 0) q)))
      → Acts constants (plain (exp_digits k q) ++ items) s e (at s turn v)
  unfolding exp_digits
  digits-act zero q items turn v is next =
      let all : v ≡ felt_pow (top s 0) q = is ∙ ap (felt_pow (top s 0)) (div-one q) in
      rw all (next turn)
  digits-act (suc k) q items turn v is next =
      let half : q / 2 ^ suc k ≡ q / 2 ^ k / 2 = rw add-one at (sym (shr-shr q k 1)) in
      let power : v ≡ felt_pow (top s 0) (q / 2 ^ k / 2) = is ∙ ap (felt_pow (top s 0)) half in
      rw (map-append, append_assoc)
      (digit-acts (q / 2 ^ k == 0) (q / 2 ^ k % 2 == 1) (plain (exp_digits k q) ++ items) turn v
      (λ later. digits-act k q items later _ (rw power (digit-power (top s 0) (q / 2 ^ k))) next))

-- behind the digits the base goes
pub exp-acts : (constants : List ℕ) (locals : ℕ) (s : State) (q : ℕ) → q < 2 ^ 64 → MeetsAt constants locals names.Exp (q ∷ []) s
unfolding expansion front instr_effect last trap fits left_cells computed trap_of
exp-acts constants locals s q small =
    let none : q / 2 ^ 64 ≡ 0 = omega arith in
    let one : 1 ≡ felt_pow (top s 0) (q / 2 ^ 64) = sym (ap (felt_pow (top s 0)) none ∙ power-zero prime (top s 0)) in
    let all : Acts constants (plain (exp_digits 64 q) ++ plain (ops.Swap ∷ ops.Drop ∷ [])) s (instr_effect constants names.Exp (q ∷ []) locals s) (at s 1 1) =
    digits-act 64 q (plain (ops.Swap ∷ ops.Drop ∷ [])) 1 1 one (λ later. computes refl) in
    record { small = all.small; room = all.room; traps = all.traps; does = all.does }
