-- The entries of the small tables have their numbers.
use Rattle.std.proofs.Common.{◌==◌, refl}
use Rattle.air_kit.specs.ChipPlaces.{ends_eight, is_inside}
use Rattle.air_kit.specs.Places.{Claim, Spot, at_number, family}
use Rattle.air_kit.specs.RangeNumbers.{HasRangeNumbers}
use Rattle.air_kit.specs.KernelNumbers.{HasKernelNumbers}
use Rattle.air_kit.specs.HasherNumbers.{HasHasherNumbers, round_of}
use Rattle.air_kit.specs.BitwiseNumbers.{HasBitwiseNumbers}
use Rattle.air_kit.specs.MemoryNumbers.{HasMemoryNumbers}
use Rattle.air_kit.specs.RangeValues.{range_values}
use Rattle.air_kit.specs.KernelValues as kernel
use Rattle.air_kit.specs.KernelValues.{kernel_values}
use Rattle.air_kit.specs.HasherValues as hasher
use Rattle.air_kit.specs.HasherValues.{chain_values, hasher_flag_values, hasher_values, hasher_values_by, round_values}
use Rattle.air_kit.specs.BitwiseValues.{bitwise_values, bitwise_values_by}
use Rattle.air_kit.specs.MemoryValues as memory
use Rattle.air_kit.specs.MemoryValues.{access_values, memory_values, word_values}
use Rattle.air_kit.proofs.NumberLemmas.{family_at}

pub range_numbers : (p : Spot) → HasRangeNumbers p
unfolding at_number range_values
range_numbers p = record {
  count = refl;
  number_1 = refl;
  number_2 = refl;
  number_3 = refl;
}

pub kernel_numbers : (c : Claim) (p : Spot) → HasKernelNumbers c p
unfolding at_number family kernel_values
kernel_numbers c p = record {
  count = refl;
  number_1 = family_at (kernel_values c p) 0 4 (λ j. kernel.entry_1 j c p.row p.cur) refl;
}

pub hasher_numbers : (c : Claim) (p : Spot) → HasHasherNumbers c p
unfolding at_number family chain_values hasher_flag_values hasher_values hasher_values_by round_values
hasher_numbers c p = record {
  count = refl;
  number_1 = refl;
  number_2 = refl;
  number_3 = refl;
  number_4 = refl;
  number_5 = refl;
  number_6 = refl;
  number_7 = refl;
  number_8 = refl;
  number_9 = refl;
  number_10 = refl;
  number_11 = refl;
  number_12 = refl;
  number_13 = refl;
  number_14 = family_at (hasher_values c p) 13 4 (λ j. hasher.entry_14 j (ends_eight p) p.cur p.next) refl;
  number_18 = family_at (hasher_values c p) 17 12 (λ j. hasher.entry_18 j (is_inside p) (round_of c p) p.cur p.next) refl;
}

pub bitwise_numbers : (p : Spot) → HasBitwiseNumbers p
unfolding at_number bitwise_values bitwise_values_by
bitwise_numbers p = record {
  count = refl;
  number_1 = refl;
  number_2 = refl;
  number_3 = refl;
  number_4 = refl;
  number_5 = refl;
  number_6 = refl;
  number_7 = refl;
  number_8 = refl;
  number_9 = refl;
  number_10 = refl;
  number_11 = refl;
  number_12 = refl;
  number_13 = refl;
  number_14 = refl;
  number_15 = refl;
  number_16 = refl;
}

pub memory_numbers : (p : Spot) → HasMemoryNumbers p
unfolding at_number family access_values memory_values word_values
memory_numbers p = record {
  count = refl;
  number_1 = refl;
  number_2 = refl;
  number_3 = refl;
  number_4 = refl;
  number_5 = refl;
  number_6 = refl;
  number_7 = refl;
  number_8 = refl;
  number_9 = refl;
  number_10 = refl;
  number_11 = family_at (memory_values p) 10 3 (λ j. memory.entry_11 j (p.row == 0) p.cur) refl;
  number_14 = refl;
  number_15 = family_at (memory_values p) 14 3 (λ j. memory.entry_15 j p.cur p.next) refl;
}
