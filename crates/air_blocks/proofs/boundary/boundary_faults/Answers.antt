use Rattle.air_blocks.proofs.FaultLemmas.{boundary_joined}
use Rattle.air_blocks.proofs.boundary.boundary_faults.Goals as goal

pub returns : goal.returns
returns g c =
    boundary_joined _ _ _ _ _ _ _ _ _ c.start_faults-start.ensures c.inputs_faults-inputs.ensures c.end_faults-end.ensures
    c.outputs_faults-outputs.ensures
    c.or_next.ensures c.or_next-2.ensures c.or_next-3.ensures
