-- One table after another.
use Rattle.std.proofs.Common.{sym, add-one, arith}
use Rattle.checker.proofs.PieceLemmas.{before_next, before_none}
use Rattle.checker.proofs.numbering.rows_before.Goals as goal

pub loop-i-init : goal.loop-i-init
loop-i-init c = (sym (before_none c.args.trace.now), omega arith)

pub loop-i-preserved : goal.loop-i-preserved
loop-i-preserved c =
    let before = c.loop-i.invariant.0 in
    let low = c.loop-i.invariant.1 in
    let few = c.rows_in-rows.ensures.few in
    let is = c.rows_in-rows.ensures.is in
    let within = c.requires.tables in
    let inside = c.loop-i-test.true in
    let next = before_next c.args.trace.now c.loop-i.i (omega (arith, within, inside)) in
    (rw add-one (omega (arith, before, is, next)), omega (arith, low, few))
