use Rattle.std.proofs.Common.{ap, ◌∙◌}
use Rattle.air_kit.specs.HasherValues.{hasher_values, hasher_values_by}
use Rattle.air_kit.specs.Places.{first_fault_of}
use Rattle.air_hasher.proofs.Faults.{first_of_three}
use Rattle.air_hasher.proofs.Rounds.{flag_values-length, chain_values-length}
use Rattle.air_hasher.proofs.fault.first_fault.Goals as goal

pub returns : goal.returns
unfolding hasher_values hasher_values_by
returns g c =
    first_of_three _ _ _ _ _ _ _ _ (flag_values-length _ _ _ _ _ _) (chain_values-length _ _ _)
    (c.first_nonzero-flags.ensures ∙ ap (first_fault_of 1) c.flag_values.ensures)
    (c.first_nonzero-chain.ensures ∙ ap (first_fault_of 14) c.chain_values.ensures)
    (c.first_nonzero-round.ensures ∙ ap (first_fault_of 18) c.round_values.ensures) c.or_next.ensures c.or_next-2.ensures
