-- The bus of children over the rows of a run.
use Rattle.complete_rows.proofs.Words.{arith, tree_digest, children_asked, children_given}
use Rattle.complete_rows.proofs.ChainLemmas.{bus_balanced}
use Rattle.complete_rows.proofs.MomentFacts.{place_comes}
use Rattle.complete_rows.proofs.TableLemmas.{linked}
use Rattle.complete_buses.specs.EvenBuses.{ChildrenAreEven}
use Rattle.complete_buses.proofs.ChildBus.{children_pair, owed_children}
use Rattle.complete_buses.proofs.ChildTuples.{child_tuple}
use Rattle.complete_buses.proofs.Hits.{one_count}
use Rattle.complete_buses.proofs.PairShown.{pair_of}

pub children_even : ChildrenAreEven
unfolding owed_children
children_even constants kernel limit tree inputs tape u log r tuple =
    let even = bus_balanced children_given children_asked tuple (λ todo d s events. owed_children constants todo d.blocks tuple)
    (λ x y rows m later. children_pair m.todo m.t.core tuple m.first (pair_of m) m.agrees.reads.1 (place_comes m.next)) (linked r) in
    omega (arith, even, one_count (child_tuple 0 (tree_digest constants tree) 0) tuple)
