-- One input more is given at each turn.
use Rattle.std.proofs.Common.{length}
use Rattle.std.proofs.lemmas.List.{get_or_read}
use Rattle.bus_kit.specs.Widths.{tallied}
use Rattle.bus_main.proofs.InputLemmas.{all_given, none_given, one_more_here}
use Rattle.bus_main.proofs.inputs.give_inputs.Goals as goal

pub loop-i-init : goal.loop-i-init
loop-i-init c = none_given (tallied c.args.tally.now) (length c.args.inputs.now) c.args.inputs.now

pub loop-i-preserved : goal.loop-i-preserved
loop-i-preserved c =
    one_more_here (tallied c.args.tally.now) (tallied c.loop-i.tally) (tallied c.give.new.tally) c.loop-i.i (length c.args.inputs.now)
    c.args.inputs.now c.loop-i.invariant c.loop-i-test.true c.input_key.result c.index-inputs-i.result c.key_from.result c.input_key.ensures
    (get_or_read c.args.inputs.now c.loop-i.i c.index-inputs-i.result c.loop-i-test.true c.index-inputs-i.is 0)
    c.key_from.ensures c.in_ok-give.ensures

pub returns : goal.returns
returns c =
    all_given (tallied c.args.tally.now) (tallied c.loop-i.tally) c.loop-i.i (length c.args.inputs.now) c.args.inputs.now c.loop-i.invariant
    c.loop-i-test.false c.loop-i.auto.i-end c.requires.few
