use Rattle.std.proofs.Common.{length}
use Rattle.air_kit.proofs.flags.+product.Given as goal

abbrev pub decreases-product : goal.decreases-product
decreases-product l = length l.bits.now
