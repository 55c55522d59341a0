-- What all entries say of a row in its place, and of the row behind it.
use Rattle.facts_main.proofs.Words.{Op, op_of, Claim, Spot, decoder_values, main_values, AllZero, HasOps, IsAtSpot, IsDynRow, IsLowClaim, ReadsAs}
use Rattle.facts_main.proofs.Words.{ShowsStack}
use Rattle.air_kit.specs.BlockValues.{block_values, follow_values, entry_61}
use Rattle.air_kit.specs.SpanValues.{span_values}
use Rattle.facts_main.specs.Limbs.{ShowsLimbs}
use Rattle.facts_main.proofs.Hot.{row_says}
use Rattle.facts_main.proofs.Means.{Means, ◌⧺◌, ◌&◌, means_as, part_then}
use Rattle.facts_main.proofs.PartFacts.{decoder_parts}
use Rattle.facts_main.proofs.OpcodeFacts.{opcode_means, row_has_op}
use Rattle.facts_main.proofs.BoundFacts.{boundary_means}
use Rattle.facts_main.proofs.FollowFacts.{span_says}
use Rattle.facts_main.proofs.BlockFacts.{Low, block_means}
use Rattle.facts_main.proofs.BatchFacts.{batch_means}
use Rattle.facts_main.proofs.GroupFacts.{group_means}
use Rattle.facts_main.proofs.StackFacts.{stack_means}
use Rattle.facts_main.proofs.LimbFacts.{limb_means}
use Rattle.facts_main.proofs.DynFacts.{dyn_means}

-- as which operation a row reads
pub reads_shown : (k : Claim) (p : Spot) → Low p.cur → AllZero (decoder_values k p) → ReadsAs (op_of p.cur) p.cur
unfolding block_values follow_values
reads_shown k p low zeros =
    let parts = (decoder_parts k p).shown zeros in
    let has = row_has_op p low parts.0 in
    record { low = low; has = has; span = (row_says entry_61 has (span_says (op_of p.cur) p.cur low)).shown (parts.2 1) }

module _ (k : Claim) (op : Op) (p : Spot) (few : IsLowClaim k) (r : HasOps op p) where
  pub decoder_means : Means (decoder_values k p) (IsAtSpot k op p)
  unfolding decoder_values span_values
  decoder_means =
      means_as
      (part_then (opcode_means op p r) (λ clock.
      boundary_means k op p few r clock.0 ⧺ block_means op p r ⧺ batch_means op p r ⧺ group_means op p r))
      (λ ((start, clock), ((first, last), ((block, follows, keeps, keeps_batch), ((batch, opens), (group, goes))))). record {
        row = record { block = block; batch = batch; group = group };
        pair = λ y e. record {
          clock = clock y e;
          follows = follows y e;
          block = keeps y e;
          batch = keeps_batch y e;
          opens = opens y e;
          group = goes y e;
        };
        first = first;
        last = last;
      })
      (λ is. (λ e. (is.first e).start.clock, λ y e. (is.pair y e).clock) & (is.first, is.last)
      & (is.row.block, λ y e. (is.pair y e).follows, λ y e. (is.pair y e).block, λ y e. (is.pair y e).batch)
      & (is.row.batch, λ y e. (is.pair y e).opens) & (is.row.group, λ y e. (is.pair y e).group))

-- the facts at a place
pub record AtPlace (k : Claim) (op : Op) (p : Spot) : Type 0 where
  pub spot : IsAtSpot k op p
  pub stack : ShowsStack op p
  pub limbs : ShowsLimbs op p
  pub dyn : IsDynRow op p.cur

pub main_means : (k : Claim) (op : Op) (p : Spot) → IsLowClaim k → HasOps op p → Means (main_values k p) (AtPlace k op p)
unfolding main_values
main_means k op p few r =
    means_as
    (part_then (decoder_means k op p few r) (λ spot. stack_means op p r spot.row.block ⧺ limb_means op p r ⧺ dyn_means op p r))
    (λ (spot, (stack, (limbs, dyn))). record { spot = spot; stack = stack; limbs = limbs; dyn = dyn })
    (λ a. a.spot & a.stack & a.limbs & a.dyn)
