-- The bus of loops over the rows of a run.
use Rattle.complete_rows.proofs.Words
use Words.{◌≡◌, ℕ, List, slice_index, ap, ◌∙◌, arith, lit<, w, op_of_mark, loops_asked, loops_given, visible_of, witnesses_by, kind_of, IsMoment}
use Words.kinds
use Rattle.complete_rows.specs.Turns.{repeats}
use Rattle.complete_rows.proofs.ChainLemmas.{bus_balanced}
use Rattle.complete_rows.proofs.MomentFacts.{moment_event, moment_witness}
use Rattle.complete_rows.proofs.TableLemmas.{linked}
use Rattle.complete_buses.specs.EvenBuses.{LoopsAreEven}
use Rattle.complete_buses.proofs.LinkedSums.{none_turned}
use Rattle.complete_buses.proofs.LoopBus.{loops_pair, owed_loops}
use Rattle.complete_buses.proofs.PairShown.{pair_of}

-- a loop shows how often it is repeated
shows_turns : {constants : List ℕ} {kernel : List (List ℕ)} {limit : ℕ} {x y : List ℕ} (m : IsMoment constants kernel limit x y)
    → kind_of (op_of_mark m.mark) ≡ kinds.Loop → w x 0 ≡ slice_index (repeats m.later) 0
shows_turns m is =
    moment_witness m 0 (lit< tt) ∙ ap (λ k. slice_index (witnesses_by k m.d (moment_event m) (visible_of m.t.core) m.later) 0) is

pub loops_even : LoopsAreEven
unfolding owed_loops
loops_even constants kernel limit tree inputs tape u log r tuple =
    let even = bus_balanced loops_given loops_asked tuple (λ todo d s events. owed_loops constants todo d.blocks (repeats events) tuple)
    (λ x y rows m later. loops_pair m.todo tuple m.first (pair_of m) (shows_turns m) (λ digest e. none_turned later digest m.todo e)) (linked r) in
    omega (arith, even)
