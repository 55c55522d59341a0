use Rattle.std.proofs.Common.{◌≡◌, sym, ap, ◌∙◌}
use Rattle.vm_field.specs.Field.{prime, felt_mul, felt_pow}
use Rattle.vm_field.proofs.PowerLaws.{power-two, power-suc, power-join}
use Rattle.air_hasher.proofs.round.seventh_power.Goals as goal

pub returns : goal.returns
returns c =
    let x = c.args.x in
    let to_2 : c.mul-to_2.result ≡ felt_pow x 2 = c.mul-to_2.ensures ∙ sym (power-two prime x) in
    let to_4 : c.mul-to_4.result ≡ felt_pow x 4 = power-join prime x _ _ _ 2 2 to_2 to_2 c.mul-to_4.ensures in
    let to_6 : c.mul.result ≡ felt_pow x 6 = power-join prime x _ _ _ 4 2 to_4 to_2 c.mul.ensures in
    c.mul-2.ensures ∙ ap (λ y. felt_mul y x) to_6 ∙ sym (power-suc prime x 6)
