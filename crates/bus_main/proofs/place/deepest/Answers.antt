-- Other rows give nothing, and there are few inputs.
use Rattle.std.proofs.Common.{◌^◌, arith}
use Rattle.std.proofs.lemmas.List.{length-drop}
use Rattle.std.proofs.lemmas.Bool.{ne_eqb}
use Rattle.bus_kit.proofs.AddingLemmas.{none_counted}
use Rattle.bus_kit.specs.Widths.{tallied}
use Rattle.bus_main.proofs.place.deepest.Goals as goal

pub returns-else-row-eq0 : goal.returns-else-row-eq0
returns-else-row-eq0 c = rw (ne_eqb c.args.row 0 c.if-row-eq0.false) (none_counted (2 ^ 20) (tallied c.args.tally.now))

-- the inputs behind the sixteenth are few
pub give_inputs-requires-clause-few : goal.give_inputs-requires-clause-few
give_inputs-requires-clause-few c =
    let count = c.len-known.ensures.count in
    let rest = length-drop 16 c.args.public.now.statement.inputs in
    rw c.deep_inputs.ensures (omega (arith, count, rest))
