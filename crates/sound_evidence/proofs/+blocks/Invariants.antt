-- Each call goes to a later row; within a block, `block` calls `looped`, and this `turns`.
use Rattle.sound_evidence.proofs.Words.{◌+◌, ◌-◌, ◌*◌, length, placed_of, Takes}
use Rattle.sound_evidence.proofs.Turning.{Turning}
use Rattle.sound_evidence.proofs.+blocks.Given as goal

abbrev pub decreases-turns::turns : goal.decreases-turns::turns
decreases-turns::turns l = 3 * (length l.trace.now.main - l.i)

abbrev pub decreases-walk::block : goal.decreases-walk::block
decreases-walk::block l = 3 * (length l.trace.now.main - l.i) + 2

abbrev pub decreases-walk::call : goal.decreases-walk::call
decreases-walk::call l = 3 * (length l.trace.now.main - l.i)

abbrev pub decreases-walk::dyn_block : goal.decreases-walk::dyn_block
decreases-walk::dyn_block l = 3 * (length l.trace.now.main - l.i)

abbrev pub decreases-walk::join : goal.decreases-walk::join
decreases-walk::join l = 3 * (length l.trace.now.main - l.i)

abbrev pub decreases-walk::looped : goal.decreases-walk::looped
decreases-walk::looped l = 3 * (length l.trace.now.main - l.i) + 1

abbrev pub decreases-walk::split : goal.decreases-walk::split
decreases-walk::split l = 3 * (length l.trace.now.main - l.i)

abbrev pub decreases-walk::syscall : goal.decreases-walk::syscall
decreases-walk::syscall l = 3 * (length l.trace.now.main - l.i)

abbrev pub invariant-turns::turns-loop-body : goal.invariant-turns::turns-loop-body
invariant-turns::turns-loop-body l = Turning l.public l.trace l.i l.a (placed_of l.body) × Takes l.trace.main (l.i + 1) l.a l.fn.tape l.tape

abbrev pub decreases-turns::turns-loop-body : goal.decreases-turns::turns-loop-body
decreases-turns::turns-loop-body l = length l.trace.main - l.a
