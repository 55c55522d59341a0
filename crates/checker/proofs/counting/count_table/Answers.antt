-- One row after another.
use Rattle.std.proofs.Common.{◌≡◌, ◌≤◌, ◌^◌, ap, ◌∙◌, arith}
use Rattle.pieces.specs.Cuts.{cut_at}
use Rattle.checker.specs.Settings.{claim_in}
use Rattle.checker.proofs.CountingLemmas.{none_counted, one_more_counted, room_for_row, room_for_table, table_counted}
use Rattle.checker.proofs.counting.count_table.Goals as goal

pub loop-row-init : goal.loop-row-init
loop-row-init c = none_counted (claim_in c.args.setting.now) c.args.trace.now c.args.name c.rows-start.result.start c.args.tallies.now

pub count_row-requires-clause-room : goal.count_row-requires-clause-room
count_row-requires-clause-room c =
    let few = c.rows_in.ensures.few in
    let within = c.rows-start.ensures.within in
    let in_range = c.loop-row-test.true in
    room_for_row (claim_in c.args.setting.now) c.args.trace.now c.args.name c.rows-start.result.start c.loop-row.row c.args.tallies.now
    c.loop-row.tallies c.requires.room c.loop-row.invariant (omega (arith, few, within, in_range))

pub loop-row-preserved : goal.loop-row-preserved
loop-row-preserved c =
    one_more_counted (claim_in c.args.setting.now) c.args.trace.now c.args.name c.rows-start.result.start c.loop-row.row c.args.tallies.now
    c.loop-row.tallies c.count_row.new.tallies (omega arith) c.loop-row.invariant c.in_ok-count_row.ensures

pub returns-clause-counted : goal.returns-clause-counted
returns-clause-counted c =
    let past = c.loop-row-test.false in
    let grows = c.rows-start.ensures.grows in
    let last : c.loop-row.row ≡ c.rows-start.result.end = omega arith in
    table_counted (claim_in c.args.setting.now) c.args.trace.now c.args.part c.args.name c.rows-start.result.start c.loop-row.row
    c.args.tallies.now c.loop-row.tallies
    (c.rows-start.ensures.start ∙ ap (λ n. cut_at c.args.part.low n c.args.part.pieces) c.rows_in.ensures.is)
    (last ∙ c.rows-start.ensures.end ∙ ap (λ n. cut_at c.args.part.high n c.args.part.pieces) c.rows_in.ensures.is) c.loop-row.invariant

pub returns-clause-room : goal.returns-clause-room
returns-clause-room c =
    let few = c.rows_in.ensures.few in
    let within = c.rows-start.ensures.within in
    let past = c.loop-row-test.false in
    let grows = c.rows-start.ensures.grows in
    let last : c.loop-row.row ≤ 2 ^ 22 = omega arith in
    room_for_table (claim_in c.args.setting.now) c.args.trace.now c.args.name c.rows-start.result.start c.loop-row.row c.args.tallies.now
    c.loop-row.tallies c.requires.room c.loop-row.invariant last
