use Rattle.std.proofs.Common.{ap}
use Rattle.air_kit.specs.Rows.{claim_at, spot_at}
use Rattle.air_decoder.proofs.FaultLemmas.{decoder_joined}
use Rattle.air_decoder.proofs.decoder.fault_by_entries.Goals as goal

pub returns : goal.returns
returns g c =
    decoder_joined (claim_at c.args.place.now) (spot_at g.V.View.cells c.args.place.now) _ _ _ _ _ _ _ _ _ (ap g.V.View.cells c.requires)
    c.seen_next-next.ensures c.opcode_faults-opcode.ensures c.boundary_faults-boundary.ensures
    c.block_faults-block.ensures c.span_faults-span.ensures c.or_next.ensures c.or_next-2.ensures c.or_next-3.ensures
