-- By the row's operation.
use Rattle.std.proofs.Common.{lit≤}
use Rattle.bus_blocks.proofs.BlockLemmas.{not_end}
use Rattle.bus_blocks.proofs.TwoLemmas.{wider}
use Rattle.bus_main.proofs.LookupLemmas.{hash_begins, hash_ends, hash_goes_on, no_hash, not_hperm, not_respan, state_permuted}
use Rattle.bus_kit.specs.Tallies.{steps_tallied}
use Rattle.bus_main.proofs.hasher.tuples_hasher.Goals as goal

pub returns-in-Respan : goal.returns-in-Respan
returns-in-Respan g c =
    let x = g.V.View.cells c.args.x.now in
    let y = g.V.View.cells c.args.y.now in
    wider 1 2 _ _ _ _ _ (lit≤ tt)
    (hash_goes_on _ _ _ _ x y c.args.op _ c.requires.op c.in-Respan.is c.gone_on.ensures c.ask.ensures)

pub returns-in-End : goal.returns-in-End
returns-in-End g c =
    let x = g.V.View.cells c.args.x.now in
    let y = g.V.View.cells c.args.y.now in
    wider 1 2 _ _ _ _ _ (lit≤ tt)
    (hash_ends _ _ _ _ x y c.args.op _ c.requires.op c.in-End.is c.ended.ensures c.ask-in-End.ensures)

pub returns-in-HPerm : goal.returns-in-HPerm
returns-in-HPerm g c =
    let x = g.V.View.cells c.args.x.now in
    let y = g.V.View.cells c.args.y.now in
    state_permuted _ _ _ _ x y c.args.op c.requires.op c.in-HPerm.is c.permuted.ensures

pub returns-then-is_start : goal.returns-then-is_start
returns-then-is_start g c =
    let x = g.V.View.cells c.args.x.now in
    let y = g.V.View.cells c.args.y.now in
    wider 1 2 _ _ _ _ _ (lit≤ tt)
    (hash_begins _ _ _ _ x y c.args.op _ c.requires.op c.if-is_start.ensures c.begun.ensures c.ask-then-is_start.ensures)

pub returns-else-is_start : goal.returns-else-is_start
returns-else-is_start g c =
    let x = g.V.View.cells c.args.x.now in
    let y = g.V.View.cells c.args.y.now in
    no_hash 2 (steps_tallied c.args.tally.now) x y c.args.op c.requires.op c.if-is_start.ensures
    (not_respan c.args.op c.in_default.not-Respan) (not_end c.args.op c.in_default.not-End) (not_hperm c.args.op c.in_default.not-HPerm)
