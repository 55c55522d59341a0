-- By how much the counts grow at the row.
use Rattle.std.proofs.Common.{◌-◌, arith}
use Rattle.checker.specs.Settings.{claim_in}
use Rattle.checker.proofs.RowCountLemmas.{asked_grows, given_grows, row_count_is}
use Rattle.checker.proofs.row_counts.count_in_row.Goals as goal

pub overflow_sub-result-3 : goal.overflow_sub-result-3
overflow_sub-result-3 c =
    let grown =
    given_grows (claim_in c.args.setting.now) c.args.trace.now c.args.sought.bus c.args.sought.tuple.now c.args.name c.args.row c.args.tallies.now
    c.count_row.new.tallies c.counts-before.result c.counts-after.result c.args.sought.statement c.beside.result c.in_ok-count_row.ensures
    c.counts-before.ensures c.counts-after.ensures c.requires.statement c.beside.ensures in
    omega (arith, grown)

pub returns-clause-count : goal.returns-clause-count
returns-clause-count c =
    let k = claim_in c.args.setting.now in
    let t = c.args.trace.now in
    let u = c.args.sought.tuple.now in
    let before = c.counts-before.result in
    let after = c.counts-after.result in
    let asked =
    asked_grows k t c.args.sought.bus u c.args.name c.args.row c.args.tallies.now c.count_row.new.tallies before after c.in_ok-count_row.ensures
    c.counts-before.ensures c.counts-after.ensures in
    let given =
    given_grows k t c.args.sought.bus u c.args.name c.args.row c.args.tallies.now c.count_row.new.tallies before after c.args.sought.statement
    c.beside.result c.in_ok-count_row.ensures c.counts-before.ensures c.counts-after.ensures c.requires.statement c.beside.ensures in
    row_count_is k t c.args.sought.bus u c.args.name c.args.row (after.0 - before.0) (after.1 - before.1 - c.beside.result)
    (omega (arith, asked)) (omega (arith, given))
