use Rattle.std.proofs.Common.{ℕ, ◌*◌, ◌/◌, ◌%◌, lit<, sym, ap, ◌∙◌, arith, one-mul, mul-one}
use Rattle.std.proofs.Math.Nat.{mod-eq_of_lt}
use Rattle.vm_field.specs.Field.{prime, felt_pow}
use Rattle.vm_field.proofs.PowerLaws.{power-below, power-turn_odd, power-turn_even, power-zero}
use Rattle.vm_field.proofs.element.Felt.pow.Goals as goal
use Rattle.vm_field.proofs.element.Felt.pow.Goals.{then-rest-eq1, else-rest-eq1}

pub loop-rest-init : goal.loop-rest-init
loop-rest-init c =
    let e = c.args.e in
    (lit< tt, ap (λ x. x % prime) (one-mul (felt_pow c.args.self e)) ∙ mod-eq_of_lt (power-below prime c.args.self e (lit< tt)))

pub loop-rest-preserved : goal.loop-rest-preserved
loop-rest-preserved c =
    let p = c.loop-rest.product in
    let b = c.loop-rest.base in
    let e = c.loop-rest.rest in
    let squared = λ (x : ℕ). ap (λ y. x * felt_pow y (e / 2) % prime) c.mul-base.ensures in
    elim c.if-rest-eq1.branch [
      | then-rest-eq1 w ↦
          let is = w.product-is ∙ w.mul-product.ensures in (
            omega (arith, is),
            squared c.if-rest-eq1.product ∙ ap (λ x. x * felt_pow (b * b % prime) (e / 2) % prime) is
                ∙ power-turn_odd prime p b e w.if-rest-eq1.true ∙ c.loop-rest.invariant.1,
          )
      | else-rest-eq1 w ↦ (
        omega (arith, w.product-is),
        squared c.if-rest-eq1.product ∙ ap (λ x. x * felt_pow (b * b % prime) (e / 2) % prime) w.product-is
            ∙ power-turn_even prime p b e (omega (arith, w.if-rest-eq1.false)) ∙ c.loop-rest.invariant.1,
      )
    ]

pub returns-clause-is : goal.returns-clause-is
returns-clause-is c =
    let p = c.loop-rest.product in
    let b = c.loop-rest.base in
    sym (mod-eq_of_lt c.loop-rest.invariant.0) ∙ ap (λ x. x % prime) (sym (mul-one p))
    ∙ ap (λ x. p * x % prime) (sym (power-zero prime b)) ∙ ap (λ x. p * felt_pow b x % prime) (omega arith)
    ∙ c.loop-rest.invariant.1
