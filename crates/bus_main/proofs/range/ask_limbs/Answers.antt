-- The limbs are a front of all.
use Rattle.bus_main.proofs.LookupLemmas.{limbs_are, no_limbs}
use Rattle.bus_kit.specs.Tallies.{values_tallied}
use Rattle.bus_main.proofs.range.ask_limbs.Goals as goal

pub returns-then-count-eq0 : goal.returns-then-count-eq0
returns-then-count-eq0 g c = no_limbs (values_tallied c.args.tally.now) _ c.args.count c.if-count-eq0.true

pub returns : goal.returns
returns g c =
    let same = limbs_are (g.V.View.cells c.args.x.now) c.limbs_in-limbs.result c.args.count c.requires.few c.limbs_in-limbs.ensures in
    rw (← same) c.ask_values.ensures
