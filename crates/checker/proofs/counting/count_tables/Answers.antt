-- All tables, one after another.
use Rattle.std.proofs.Common.{subst, arith}
use Rattle.checker.specs.Counting.{AreTablesCounted}
use Rattle.checker.specs.Settings.{claim_in}
use Rattle.checker.proofs.CountingLemmas.{no_table_counted, one_table_more, part_counted, room_at}
use Rattle.checker.proofs.counting.count_tables.Goals as goal

pub loop-name-init : goal.loop-name-init
loop-name-init c = no_table_counted (claim_in c.args.setting.now) c.args.trace.now c.args.part c.new-tallies.result c.new-tallies.ensures

pub count_table-requires-clause-room : goal.count_table-requires-clause-room
count_table-requires-clause-room c = room_at c.loop-name.name-index c.loop-name.tallies c.loop-name-test.true c.loop-name.invariant.within

pub loop-name-preserved : goal.loop-name-preserved
loop-name-preserved c =
    one_table_more (claim_in c.args.setting.now) c.args.trace.now c.args.part c.loop-name.name-index c.loop-name.tallies c.count_table.new.tallies
    c.loop-name-test.true c.loop-name.invariant c.in_ok-count_table.ensures.counted c.in_ok-count_table.ensures.room

pub returns : goal.returns
returns c =
    part_counted (claim_in c.args.setting.now) c.args.trace.now c.args.part c.loop-name.tallies
    (subst (λ n. AreTablesCounted (claim_in c.args.setting.now) c.args.trace.now c.args.part n c.loop-name.tallies)
    (omega (arith, c.loop-name-test.false, c.loop-name.auto.name-index-end)) c.loop-name.invariant)
