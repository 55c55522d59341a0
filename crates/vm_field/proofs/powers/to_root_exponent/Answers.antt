use Rattle.std.proofs.Common.{◌≡◌, slice_index, sym, ap, ◌∙◌}
use Rattle.vm_field.specs.Field.{prime, felt_mul, felt_pow}
use Rattle.vm_field.proofs.PowerLaws.{power-two, power-suc, power-step, power-join}
use Rattle.vm_field.proofs.powers.to_root_exponent.Goals as goal

-- at each place the values are powers of that element, with the exponents that their names tell
pub returns : goal.returns
returns g c =
    λ k h.
    let x = slice_index c.args.x.now k in
    let to_2 : slice_index c.products-to_2.result k ≡ felt_pow x 2 = c.products-to_2.ensures k h ∙ sym (power-two prime x) in
    let to_4 : slice_index c.products-to_4.result k ≡ felt_pow x 4 = power-join prime x _ _ _ 2 2 to_2 to_2 (c.products-to_4.ensures k h) in
    let blocks_2 : slice_index c.squared_times-blocks_2.result k ≡ felt_pow x 36 =
    power-step prime x _ _ _ 4 8 4 to_4 to_4 (c.squared_times-blocks_2.ensures k h) in
    let blocks_4 : slice_index c.squared_times-blocks_4.result k ≡ felt_pow x 2340 =
    power-step prime x _ _ _ 36 64 36 blocks_2 blocks_2 (c.squared_times-blocks_4.ensures k h) in
    let blocks_8 : slice_index c.squared_times-blocks_8.result k ≡ felt_pow x 9586980 =
    power-step prime x _ _ _ 2340 4096 2340 blocks_4 blocks_4 (c.squared_times-blocks_8.ensures k h) in
    let blocks_10 : slice_index c.squared_times-blocks_10.result k ≡ felt_pow x 613566756 =
    power-step prime x _ _ _ 9586980 64 36 blocks_8 blocks_2 (c.squared_times-blocks_10.ensures k h) in
    let twice_10 : slice_index c.squared_times-twice_10.result k ≡ felt_pow x 1317624576079972644 =
    power-step prime x _ _ _ 613566756 2147483648 613566756 blocks_10 blocks_10 (c.squared_times-twice_10.ensures k h) in
    let high : slice_index c.squared_times-high.result k ≡ felt_pow x 2635249152773512044 =
    power-step prime x _ _ _ 1317624576079972644 2 613566756 twice_10 blocks_10 (c.squared_times-high.ensures k h) in
    let to_6 : slice_index c.products-to_6.result k ≡ felt_pow x 6 = power-join prime x _ _ _ 4 2 to_4 to_2 (c.products-to_6.ensures k h) in
    let low : slice_index c.products-low.result k ≡ felt_pow x 7 =
    c.products-low.ensures k h ∙ ap (λ y. felt_mul y x) to_6 ∙ sym (power-suc prime x 6) in
    power-step prime x _ _ _ 2635249152773512044 4 7 high low (c.squared_times.ensures k h)
