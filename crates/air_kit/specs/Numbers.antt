-- Each entry has the number of its definition, in every table; the table of cells left has no entry.
use Rattle.std.specs.Prelude.{◌≡◌, []}
use Rattle.air_kit.specs.declared.trace.TableName.TheVariants as table
use Rattle.air_kit.specs.BitwiseNumbers.{HasBitwiseNumbers}
use Rattle.air_kit.specs.HasherNumbers.{HasHasherNumbers}
use Rattle.air_kit.specs.KernelNumbers.{HasKernelNumbers}
use Rattle.air_kit.specs.MainNumbers.{HasMainNumbers}
use Rattle.air_kit.specs.MemoryNumbers.{HasMemoryNumbers}
use Rattle.air_kit.specs.Places.{Claim, Spot}
use Rattle.air_kit.specs.RangeNumbers.{HasRangeNumbers}
use Rattle.air_kit.specs.Traces.{values_by}

pub record HaveNumbers (c : Claim) (p : Spot) : Type 0 where
  pub main : HasMainNumbers c p
  pub range : HasRangeNumbers p
  pub hasher : HasHasherNumbers c p
  pub bitwise : HasBitwiseNumbers p
  pub memory : HasMemoryNumbers p
  pub kernel : HasKernelNumbers c p
  pub left : values_by table.Left c p ≡ []
