use Rattle.std.proofs.Common.{◌*◌, ◌%◌, ◌^◌, slice_index, sym, ap, ◌∙◌, arith, pow-suc, add-one}
use Rattle.std.proofs.lemmas.Nat.{mul-mod_first}
use Rattle.vm_field.specs.Field.{prime, felt_pow}
use Rattle.vm_field.proofs.PowerLaws.{power-one, power-squared}
use Rattle.vm_field.proofs.powers.squared_times.Goals as goal

pub loop-i-init : goal.loop-i-init
loop-i-init g c = λ k h. sym (power-one prime (slice_index c.args.x.now k))

pub loop-i-preserved : goal.loop-i-preserved
loop-i-preserved g c =
    λ k h.
    let x = slice_index c.args.x.now k in
    let i = c.loop-i.i in
    ap (λ y. y % prime) (c.products-powers.ensures k h) ∙ power-squared prime x (slice_index c.loop-i.powers k) (2 ^ i) (c.loop-i.invariant k h)
    ∙ ap (λ n. felt_pow x n) (sym (pow-suc 2 i) ∙ ap (λ n. 2 ^ n) (sym (add-one i)))

pub returns : goal.returns
returns g c =
    λ k h.
    let x = slice_index c.args.x.now k in
    let y = slice_index c.args.y.now k in
    c.products.ensures k h ∙ sym (mul-mod_first (slice_index c.loop-i.powers k) y prime) ∙ ap (λ z. z * y % prime) (c.loop-i.invariant k h)
    ∙ ap (λ n. felt_pow x (2 ^ n) * y % prime) (omega arith)
