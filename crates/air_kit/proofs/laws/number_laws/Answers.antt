use Rattle.std.proofs.Common.{refl}
use Rattle.air_kit.proofs.ChipNumberLaws.{bitwise_numbers, hasher_numbers, kernel_numbers, memory_numbers, range_numbers}
use Rattle.air_kit.proofs.MainNumberLaws.{main_numbers}
use Rattle.air_kit.proofs.laws.number_laws.Goals as goal

pub returns : goal.returns
returns c = λ k p. record {
  main = main_numbers k p;
  range = range_numbers p;
  hasher = hasher_numbers k p;
  bitwise = bitwise_numbers p;
  memory = memory_numbers p;
  kernel = kernel_numbers k p;
  left = refl;
}
