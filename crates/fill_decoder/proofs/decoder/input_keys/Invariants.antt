use Rattle.std.proofs.Common.{◌≡◌, ◌-◌}
use Rattle.air_kit.specs.DeepCells.{input_keys}
use Rattle.fill_decoder.proofs.decoder.input_keys.Given as goal

abbrev pub invariant-loop-i : goal.invariant-loop-i
invariant-loop-i l = l.keys ≡ input_keys l.i (l.count - l.i)
