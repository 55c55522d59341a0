-- What the entries 148 to 151 say where they are 0, and back.
use Rattle.facts_main.proofs.Words.{◌+◌, Op, dyn_values, entry_148, Spot, IsDynRow, HasOps, refl}
use Rattle.facts_main.proofs.Says.{gate, zero_says}
use Rattle.facts_main.proofs.SpotSays.{row_at}
use Rattle.facts_main.proofs.Means.{Means, each, means_as}

pub dyn_means : (op : Op) (p : Spot) → HasOps op p → Means (dyn_values p) (IsDynRow op p.cur)
unfolding dyn_values entry_148
dyn_means op p r =
    means_as (each 4 (λ j few. row_at (entry_148 j) r (gate refl (zero_says (r.here.low (16 + j)))))) (λ none is j few. none j few is)
    (λ shows j few is. shows is j few)
