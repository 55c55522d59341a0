-- The bus of groups over the rows of a run.
use Rattle.complete_rows.proofs.Words
use Words.{ℕ, ◌≤◌, List, sym, ap, ◌∙◌, arith, most_cycles, is_ordinary_op, bit_of, sp, groups_asked, groups_given, decoder_behind, advance, line_of, IsMoment}
use Rattle.complete_rows.proofs.ChainLemmas.{bus_balanced}
use Rattle.complete_rows.proofs.ColumnLemmas.{col_sp}
use Rattle.complete_rows.proofs.MomentFacts.{moment_event, moment_pair, moment_reads, moment_row, place_comes, place_op}
use Rattle.complete_rows.proofs.TableLemmas.{linked}
use Rattle.complete_buses.specs.EvenBuses.{GroupsAreEven}
use Rattle.complete_buses.proofs.GroupBus.{GroupPair, groups_pair, nothing_owed, owed_groups}
use Rattle.complete_buses.proofs.GroupTuples.{positions_given}
use Rattle.complete_buses.proofs.LinkedSums.{agrees_last}
use Rattle.complete_buses.proofs.PairShown.{pair_of}

-- what a moment's row and the row behind it show
shown_of : {constants : List ℕ} {kernel : List (List ℕ)} {limit : ℕ} {x y : List ℕ} → limit ≤ most_cycles → IsMoment constants kernel limit x y
    → GroupPair x y
shown_of within m = record {
  reads = moment_reads m;
  row = moment_row m within;
  pair = moment_pair m within;
  inside = ap sp m.next.row ∙ col_sp (line_of (advance m.d (moment_event m) m.later) m.next.event m.next.next m.next.later)
      ∙ ap (λ o. bit_of (is_ordinary_op o)) (sym (place_op m.next));
}

pub groups_even : GroupsAreEven
unfolding positions_given
groups_even constants kernel limit tree inputs tape u log r tuple =
    let even = bus_balanced groups_given groups_asked tuple (λ todo d s events. owed_groups d tuple)
    (λ x y rows m later. groups_pair m.t.core tuple m.first (pair_of m) (shown_of r.within m) m.agrees (place_comes m.next)) (linked r) in
    let end = nothing_owed (decoder_behind constants kernel inputs log).ha (decoder_behind constants kernel inputs log).unread tuple
    (agrees_last (linked r)).reads in
    omega (arith, even, end)
