-- Behind each value the values so far were asked.
use Rattle.std.proofs.Common.{[], take, subst, lit<, arith}
use Rattle.std.proofs.lemmas.List.{take_all}
use Rattle.bus_kit.specs.Adding.{IsCounted, singles}
use Rattle.bus_kit.proofs.AddingLemmas.{counted_within, none_counted, one_more_value}
use Rattle.bus_kit.proofs.adding.ask_values.Goals as goal

pub loop-value-init : goal.loop-value-init
loop-value-init g c = none_counted 0 _

pub ask-requires : goal.ask-requires
ask-requires g c = (lit< tt, λ u. let grown = c.loop-value.invariant.asked_grows u in let room = c.requires.room u in omega arith)

pub loop-value-preserved : goal.loop-value-preserved
loop-value-preserved g c =
    one_more_value c.loop-value.value-index (g.T.Count.both c.args.tally.now) (g.T.Count.both c.loop-value.tally) (g.T.Count.both c.ask.new.tally)
    c.args.values.now c.value-item.result c.value-item.result c.loop-value-test.true c.value-item.is
    c.loop-value.invariant c.in_ok-ask.ensures

pub returns : goal.returns
returns g c =
    let all =
    counted_within c.loop-value.value-index 16 (g.T.Count.both c.args.tally.now) (g.T.Count.both c.loop-value.tally)
    (singles (take c.loop-value.value-index c.args.values.now)) [] c.loop-value.invariant (omega arith) in
    subst (λ vs. IsCounted 16 (g.T.Count.both c.args.tally.now) (g.T.Count.both c.loop-value.tally) (singles vs) [])
    (take_all c.loop-value.value-index c.args.values.now c.loop-value-test.false) all
