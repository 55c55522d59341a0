use Rattle.std.proofs.Common.{take, []}
use Rattle.bus_kit.specs.Adding.{IsCounted, singles}
use Rattle.bus_kit.proofs.adding.ask_values.Given as goal

abbrev pub invariant-loop-value : goal.invariant-loop-value
invariant-loop-value g l = IsCounted l.value-index (g.T.Count.both l.fn.tally) (g.T.Count.both l.tally) (singles (take l.value-index l.values)) []
