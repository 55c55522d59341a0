-- Behind the pass, the best is the least entry apart.
use Rattle.std.proofs.Common.{Some, option_map, ap, sym, ◌∙◌}
use Rattle.bus_kit.specs.Scanning.{told}
use Rattle.bus_kit.specs.Widths.{tallied}
use Rattle.bus_kit.proofs.ScanLemmas.{scan_told}
use Rattle.bus_kit.proofs.tally.Tally.unequal.Goals as goal

pub returns-in-None-best-clause-least : goal.returns-in-None-best-clause-least
unfolding tallied
returns-in-None-best-clause-least g c =
    scan_told c.args.self.now.both _ _ _ c.loop-tuple.invariant c.in-None.ensures.steps.0 c.iter-tuple-items.ensures.found
    (ap (option_map told) (sym c.in-None-best.is))

pub returns-in-Some-best-clause-least : goal.returns-in-Some-best-clause-least
unfolding tallied
returns-in-Some-best-clause-least g c =
    scan_told c.args.self.now.both _ _ _ c.loop-tuple.invariant c.in-None.ensures.steps.0 c.iter-tuple-items.ensures.found
    (ap Some c.told.ensures.is ∙ ap (option_map told) (sym c.in-Some-best.is))
