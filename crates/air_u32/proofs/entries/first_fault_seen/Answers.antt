use Rattle.std.proofs.Common.{subst, sym}
use Rattle.air_kit.specs.Flags.{flag}
use Rattle.air_kit.specs.Rows.{spot_at}
use Rattle.air_u32.specs.Limbs.{HasNoLimbs}
use Rattle.air_u32.proofs.LimbLemmas.{no_fault}
use Rattle.air_u32.proofs.entries.first_fault_seen.Goals as goal

pub returns-then-lacks_limbs : goal.returns-then-lacks_limbs
returns-then-lacks_limbs g c =
    sym (no_fault (spot_at g.V.View.cells c.args.place.now)
    (subst (λ row. HasNoLimbs (flag (g.V.View.cells row))) c.requires (c.lacks_limbs.ensures c.if-lacks_limbs.true)))
