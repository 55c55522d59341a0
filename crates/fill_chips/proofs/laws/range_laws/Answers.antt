use Rattle.fill_chips.proofs.RangeGiven.{range_gives}
use Rattle.fill_chips.proofs.RangeZero.{range-few, range-some, range-zero}
use Rattle.fill_chips.proofs.laws.range_laws.Goals as goal

pub returns : goal.returns
returns c = record { zero = range-zero; gives = range_gives; some = range-some; most = range-few }
