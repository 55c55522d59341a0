use Rattle.fill_chips.proofs.Words.{◌<◌, length, arith}
use Rattle.fill_chips.proofs.LimbTimes.{times-begun, times-room, times-row}
use Rattle.fill_chips.proofs.range.times_of.Goals as goal

pub loop-i-init : goal.loop-i-init
loop-i-init c =
    times-begun c.args.asked.now c.in_ok-times.times.items c.count.new.times.items c.count.ensures.size c.in_ok-times.ensures.zero
    c.count.ensures.counts

pub count-requires-in-loop-i-clause-few : goal.count-requires-in-loop-i-clause-few
count-requires-in-loop-i-clause-few c = λ v.
    let within : c.loop-i.i < length c.args.memory.now = omega (arith, c.loop-i-test.true, c.rows-i-end.ensures.is) in
    let room =
    times-room c.args.asked.now c.loop-i.times.items c.limbs_of.result c.args.memory.now c.loop-i.i v within c.limbs_of.ensures
    c.loop-i.invariant in
    omega (arith, room, c.requires.few)

pub loop-i-preserved : goal.loop-i-preserved
loop-i-preserved c =
    times-row c.args.asked.now c.loop-i.times.items c.count-in-loop-i.new.times.items c.limbs_of.result c.args.memory.now c.loop-i.i
    (omega (arith, c.loop-i-test.true, c.rows-i-end.ensures.is))
    c.limbs_of.ensures c.loop-i.invariant c.count-in-loop-i.ensures.size c.count-in-loop-i.ensures.counts
