use Rattle.std.proofs.Common.{refl}
use Rattle.machine_cycles.proofs.KeptLemmas.{shows}
use Rattle.machine_cycles.proofs.log.Events.op.Goals as goal

pub returns : goal.returns
returns c =
    shows c.self.inside.lists c.self.inside.items.items c.args.self.now c.args.place
    c.index.result.now c.self.view_is c.requires.within c.index.ensures refl
