-- One row after another.
use Rattle.std.proofs.Common.{◌≡◌, ◌++◌, ◌∙◌, subst, arith}
use Rattle.checker.specs.RowCounts.{first_counts}
use Rattle.checker.specs.Settings.{claim_in}
use Rattle.checker.proofs.CountingLemmas.{none_counted, one_more_counted, room_for_row, room_for_table}
use Rattle.checker.proofs.RowCountLemmas.{no_row_told, one_row_told}
use Rattle.checker.proofs.row_counts.count_table.Goals as goal

pub loop-row-init : goal.loop-row-init
loop-row-init c = record {
  counted = none_counted (claim_in c.args.setting.now) c.args.trace.now c.args.name 0 c.args.tallies.now;
  rows = no_row_told (claim_in c.args.setting.now) c.args.trace.now c.args.sought.bus c.args.sought.tuple.now c.args.name _;
}

pub count_in_row-requires-clause-room : goal.count_in_row-requires-clause-room
count_in_row-requires-clause-room c =
    let few = c.rows_in-row-end.ensures.few in
    let in_range = c.loop-row-test.true in
    room_for_row (claim_in c.args.setting.now) c.args.trace.now c.args.name 0 c.loop-row.row c.args.tallies.now
    c.loop-row.tallies c.requires.room c.loop-row.invariant.counted (omega (arith, few, in_range))

pub loop-row-preserved : goal.loop-row-preserved
loop-row-preserved c = record {
  counted = one_more_counted (claim_in c.args.setting.now) c.args.trace.now c.args.name 0 c.loop-row.row c.args.tallies.now
      c.loop-row.tallies c.count_in_row.new.tallies (omega arith) c.loop-row.invariant.counted c.in_ok-count.ensures.counted;
  rows = one_row_told (claim_in c.args.setting.now) c.args.trace.now c.args.sought.bus c.args.sought.tuple.now c.args.name c.loop-row.row
      c.args.rows.now.items _ _ _ c.loop-row.invariant.rows c.in_ok-count.ensures.count c.in_ok-keep.ensures;
}

pub returns-clause-rows : goal.returns-clause-rows
returns-clause-rows c =
    let past = c.loop-row-test.false in
    let within = c.loop-row.auto.row-end in
    let last : c.loop-row.row ≡ c.rows_in-row-end.result = omega (arith, past, within) in
    subst (λ n. c.loop-row.rows.items
    ≡ c.args.rows.now.items ++ first_counts (claim_in c.args.setting.now) c.args.trace.now c.args.sought.bus c.args.sought.tuple.now c.args.name n)
    (last ∙ c.rows_in-row-end.ensures.is) c.loop-row.invariant.rows

pub returns-clause-room : goal.returns-clause-room
returns-clause-room c =
    let few = c.rows_in-row-end.ensures.few in
    let past = c.loop-row-test.false in
    room_for_table (claim_in c.args.setting.now) c.args.trace.now c.args.name 0 c.loop-row.row c.args.tallies.now
    c.loop-row.tallies c.requires.room c.loop-row.invariant.counted (omega arith)
