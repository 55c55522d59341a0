-- Entry after entry.
use Rattle.std.proofs.Common.{rules}
use Rattle.bus_kit.specs.Counting.{FitTogether}
use Rattle.bus_kit.specs.Widths.{tallied}
use Rattle.bus_kit.proofs.AbsorbLemmas.{absorbs_fit, absorbs_more, absorbs_all, absorbs_nothing, absorbs_nothing_still}
use Rattle.bus_kit.proofs.tally.Tally.absorb.Goals as goal

pub absorb_tuple-requires : goal.absorb_tuple-requires
absorb_tuple-requires g c =
    let fits : FitTogether (tallied c.loop-tuple.self c.in-Some.tuple.now) c.in-Some.both.now =
    absorbs_fit (tallied c.loop-tuple.self) (tallied c.args.self.now) (tallied c.args.other.now) c.loop-tuple.tuple-iterator
    c.in-Some.tuple.now c.in-Some.both.now c.next.new.self c.in-Some.ensures.steps c.loop-tuple.invariant (c.requires.fits c.in-Some.tuple.now c.known_width.ensures) in
    search rules

pub loop-tuple-preserved : goal.loop-tuple-preserved
loop-tuple-preserved g c =
    absorbs_more (tallied c.loop-tuple.self) (tallied c.args.self.now) (tallied c.args.other.now) c.loop-tuple.tuple-iterator
    c.in-Some.tuple.now c.in-Some.both.now c.next.new.self (tallied c.absorb_tuple.new.self) c.in-Some.ensures.steps c.loop-tuple.invariant c.in_ok-absorb_tuple.ensures.ok

pub returns-in_err-absorb_tuple-clause-none : goal.returns-in_err-absorb_tuple-clause-none
returns-in_err-absorb_tuple-clause-none g c =
    absorbs_nothing_still (tallied c.loop-tuple.self) (tallied c.args.self.now) (tallied c.args.other.now) c.loop-tuple.tuple-iterator
    (tallied c.absorb_tuple.new.self) c.loop-tuple.invariant c.in_err-absorb_tuple.ensures.err

pub returns-clause-ok : goal.returns-clause-ok
returns-clause-ok g c =
    absorbs_all (tallied c.loop-tuple.self) (tallied c.args.self.now) (tallied c.args.other.now) c.loop-tuple.tuple-iterator
    c.in-None.ensures.steps.0 c.loop-tuple.invariant

pub returns-clause-none : goal.returns-clause-none
returns-clause-none g c =
    absorbs_nothing (tallied c.loop-tuple.self) (tallied c.args.self.now) (tallied c.args.other.now) c.loop-tuple.tuple-iterator
    c.loop-tuple.invariant
