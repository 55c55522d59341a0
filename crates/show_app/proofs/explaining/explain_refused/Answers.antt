use Rattle.show_app.proofs.ExplainLemmas.{bus_says}
use Rattle.show_app.proofs.explaining.explain_refused.Goals as goal

pub unreachable-requires : goal.unreachable-requires
unreachable-requires c = rw c.in-Fault.is at c.requires.other

pub returns-in-Bus-clause-says : goal.returns-in-Bus-clause-says
returns-in-Bus-clause-says c =
    bus_says c.answered.result c.bus_lines.result _ _ c.args.refused.now c.in-Bus.bus c.in-Bus.tuple c.as_slice.result.now c.in-Bus.asked
    c.in-Bus.given c.in-Bus.is c.as_slice.ensures.elements c.answered.ensures c.bus_lines.ensures
