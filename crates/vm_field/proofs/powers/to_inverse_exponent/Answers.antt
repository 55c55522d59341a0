use Rattle.std.proofs.Common.{◌≡◌, slice_index, sym, ◌∙◌}
use Rattle.vm_field.specs.Field.{prime, felt_pow}
use Rattle.vm_field.proofs.PowerLaws.{power-shifted, power-step, power-suc}
use Rattle.vm_field.proofs.powers.to_inverse_exponent.Goals as goal

-- at each place the values are powers of that element, to as many ones in binary as their names tell
pub returns : goal.returns
returns g c =
    λ k h.
    let x = slice_index c.args.x.now k in
    let ones_2 : slice_index c.squared_times-ones_2.result k ≡ felt_pow x 3 = c.squared_times-ones_2.ensures k h ∙ sym (power-suc prime x 2) in
    let ones_4 : slice_index c.squared_times-ones_4.result k ≡ felt_pow x 15 =
    power-step prime x _ _ _ 3 4 3 ones_2 ones_2 (c.squared_times-ones_4.ensures k h) in
    let ones_8 : slice_index c.squared_times-ones_8.result k ≡ felt_pow x 255 =
    power-step prime x _ _ _ 15 16 15 ones_4 ones_4 (c.squared_times-ones_8.ensures k h) in
    let ones_16 : slice_index c.squared_times-ones_16.result k ≡ felt_pow x 65535 =
    power-step prime x _ _ _ 255 256 255 ones_8 ones_8 (c.squared_times-ones_16.ensures k h) in
    let ones_24 : slice_index c.squared_times-ones_24.result k ≡ felt_pow x 16777215 =
    power-step prime x _ _ _ 65535 256 255 ones_16 ones_8 (c.squared_times-ones_24.ensures k h) in
    let ones_28 : slice_index c.squared_times-ones_28.result k ≡ felt_pow x 268435455 =
    power-step prime x _ _ _ 16777215 16 15 ones_24 ones_4 (c.squared_times-ones_28.ensures k h) in
    let ones_30 : slice_index c.squared_times-ones_30.result k ≡ felt_pow x 1073741823 =
    power-step prime x _ _ _ 268435455 4 3 ones_28 ones_2 (c.squared_times-ones_30.ensures k h) in
    let ones_31 : slice_index c.squared_times-ones_31.result k ≡ felt_pow x 2147483647 =
    power-shifted prime x _ _ 1073741823 ones_30 (c.squared_times-ones_31.ensures k h) in
    let ones_32 : slice_index c.squared_times-ones_32.result k ≡ felt_pow x 4294967295 =
    power-shifted prime x _ _ 2147483647 ones_31 (c.squared_times-ones_32.ensures k h) in
    power-step prime x _ _ _ 2147483647 8589934592 4294967295 ones_31 ones_32 (c.squared_times.ensures k h)
