-- The statement alone, counted in tallies of no tuple.
use Rattle.std.proofs.Common.{sym, subst, arith}
use Rattle.air_kit.specs.declared.trace.TableName.TheVariants as table
use Rattle.bus_main.specs.RowTuples.{IsReadable}
use Rattle.checker.proofs.CountingLemmas.{ok_given, room_at_start}
use Rattle.checker.proofs.RowCountLemmas.{statement_counted}
use Rattle.checker.specs.Settings.{claim_in}
use Rattle.checker.proofs.row_counts.count_statement.Goals as goal

pub row-requires : goal.row-requires
row-requires c = let some = (c.requires.counts table.Main).least in omega (arith, some)

pub tuples-requires-clause-readable : goal.tuples-requires-clause-readable
tuples-requires-clause-readable c =
    let some = (c.requires.counts table.Main).least in
    subst IsReadable (sym c.row.ensures.cells) (c.requires.readable 0 (omega (arith, some)))

pub tuples-requires-clause-room : goal.tuples-requires-clause-room
tuples-requires-clause-room c = room_at_start _ c.new-tallies.ensures

pub returns : goal.returns
returns c =
    statement_counted (claim_in c.args.setting.now) c.args.bus c.args.tuple.now c.new-tallies.result c.tuples.new.tallies _ c.counts-given.result
    c.new-tallies.ensures (ok_given c.tuples.result c.ok.result _ _ c.ok.ensures.value c.in_ok-ok.was c.tuples.ensures) c.counts-given.ensures
