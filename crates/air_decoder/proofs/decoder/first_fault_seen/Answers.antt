use Rattle.std.proofs.Common.{ap, refl}
use Rattle.air_kit.specs.Rows.{claim_at, spot_at}
use Rattle.air_decoder.proofs.QuickLemmas.{place_answer}
use Rattle.air_decoder.proofs.decoder.first_fault_seen.Goals as goal

pub returns-then-is_inner : goal.returns-then-is_inner
returns-then-is_inner g c =
    place_answer (claim_at c.args.place.now) (spot_at g.V.View.cells c.args.place.now) _ _ (ap g.V.View.cells c.requires) refl
    (c.is_inner.ensures c.if-is_inner.true)
