-- The bus of blocks over the rows of a run.
use Rattle.complete_rows.proofs.Words.{arith, blocks_asked, blocks_given}
use Rattle.complete_rows.proofs.ChainLemmas.{bus_balanced}
use Rattle.complete_rows.proofs.TableLemmas.{linked}
use Rattle.complete_buses.specs.EvenBuses.{BlocksAreEven}
use Rattle.complete_buses.proofs.BlockBus.{blocks_pair, owed_blocks}
use Rattle.complete_buses.proofs.PairShown.{pair_of}

pub blocks_even : BlocksAreEven
unfolding owed_blocks
blocks_even constants kernel limit tree inputs tape u log r tuple =
    let even = bus_balanced blocks_given blocks_asked tuple (λ todo d s events. owed_blocks todo d.blocks tuple)
    (λ x y rows m later. blocks_pair tuple m.first (pair_of m) m.agrees) (linked r) in
    omega (arith, even)
