-- All tables, one after another.
use Rattle.std.proofs.Common.{◌≡◌, subst, take, arith, rules}
use Rattle.std.specs.List.{flat_map}
use Rattle.air_kit.specs.Tables.{every_table}
use Rattle.checker.specs.RowCounts.{table_counts}
use Rattle.checker.specs.Settings.{claim_in}
use Rattle.checker.proofs.CountingLemmas.{none_within, room_at, room_next}
use Rattle.checker.proofs.RowCountLemmas.{one_table_told}
use Rattle.checker.proofs.row_counts.count_tables.Goals as goal

pub loop-name-init : goal.loop-name-init
loop-name-init c = record { rows = search rules; room = none_within c.new-tallies.result c.new-tallies.ensures }

pub count_table-requires-clause-room : goal.count_table-requires-clause-room
count_table-requires-clause-room c = room_at c.loop-name.name-index c.loop-name.tallies c.loop-name-test.true c.loop-name.invariant.room

pub loop-name-preserved : goal.loop-name-preserved
loop-name-preserved c = record {
  rows = one_table_told (claim_in c.args.setting.now) c.args.trace.now c.args.bus c.args.tuple.now c.loop-name.name-index _ _ c.loop-name-test.true
      c.loop-name.invariant.rows c.in_ok-count_table.ensures.rows;
  room = room_next c.loop-name.name-index c.count_table.new.tallies c.loop-name-test.true c.in_ok-count_table.ensures.room;
}

pub returns-clause-rows : goal.returns-clause-rows
returns-clause-rows c =
    let last : c.loop-name.name-index ≡ 7 = omega (arith, c.loop-name-test.false, c.loop-name.auto.name-index-end) in
    subst (λ n. c.loop-name.rows.items
    ≡ flat_map (table_counts (claim_in c.args.setting.now) c.args.trace.now c.args.bus c.args.tuple.now) (take n every_table))
    last c.loop-name.invariant.rows
