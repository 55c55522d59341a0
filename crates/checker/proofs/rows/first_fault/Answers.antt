-- One table after another.
use Rattle.std.proofs.Common.{subst, arith}
use Rattle.checker.specs.Answers.{AreZeroBelow}
use Rattle.checker.specs.Pieces.{ends_at, starts_at}
use Rattle.checker.specs.Settings.{claim_in}
use Rattle.checker.proofs.RowLemmas.{all_zero, fault_at, none_below, zero_next}
use Rattle.checker.proofs.rows.first_fault.Goals as goal

pub loop-name-init : goal.loop-name-init
loop-name-init c =
    none_below (claim_in c.args.setting.now) c.args.trace.now (starts_at c.args.trace.now c.args.part) (ends_at c.args.trace.now c.args.part)

pub returns-in-Some : goal.returns-in-Some
returns-in-Some c =
    fault_at (claim_in c.args.setting.now) c.args.trace.now (starts_at c.args.trace.now c.args.part) (ends_at c.args.trace.now c.args.part)
    c.loop-name.name-index c.in-Some.fault c.loop-name-test.true c.loop-name.invariant c.in-Some.ensures

pub loop-name-preserved : goal.loop-name-preserved
loop-name-preserved c =
    zero_next (claim_in c.args.setting.now) c.args.trace.now (starts_at c.args.trace.now c.args.part) (ends_at c.args.trace.now c.args.part)
    c.loop-name.name-index c.loop-name-test.true c.loop-name.invariant c.in_default.ensures

pub returns : goal.returns
returns c =
    all_zero (claim_in c.args.setting.now) c.args.trace.now (starts_at c.args.trace.now c.args.part) (ends_at c.args.trace.now c.args.part)
    (subst
    (AreZeroBelow (claim_in c.args.setting.now) c.args.trace.now (starts_at c.args.trace.now c.args.part) (ends_at c.args.trace.now c.args.part))
    (omega (arith, c.loop-name-test.false, c.loop-name.auto.name-index-end)) c.loop-name.invariant)
