use Rattle.std.proofs.Common.{◌+◌, ◌<◌, ◌^◌, lit<, subst}
use Rattle.bus_kit.specs.Counting.{on_side}
use Rattle.bus_kit.proofs.WidthLemmas.{at_fourteen, in_fourteen}
use Rattle.bus_kit.proofs.hasher.StepTallyCount14.add.Goals as goal

pub add-requires : goal.add-requires
add-requires c = (
  lit< tt,
  (
    lit< tt,
    subst (λ both. on_side c.args.side both + c.args.count < 2 ^ 128) (at_fourteen c.args.self.now c.args.tuple.now c.told-tuple) c.requires,
  ),
)

pub returns : goal.returns
returns c = in_fourteen c.args.side c.args.tuple.now c.args.count c.args.self.now c.add.new.self c.add.result c.told-tuple c.add.ensures
