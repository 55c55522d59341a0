use Rattle.std.proofs.Common.{ℕ, List, ◌++◌, ◌∙◌, ap}
use Rattle.machine_cycles.specs.Names.{under}
use Rattle.machine_cycles.proofs.KeptLemmas.{names_within, seen-named, shows}
use Rattle.machine_cycles.proofs.log.Events.before.Goals as goal

pub returns : goal.returns
returns c =
    let k = c.index-kept.result.now in
    shows c.self.inside.lists c.self.inside.items.items c.args.self.now c.args.place k c.self.view_is c.requires.within c.index-kept.ensures
    (seen-named c.self.inside.lists k c.index-scene.result.now c.cells_named.result
    (names_within c.self.inside.lists c.self.inside.items.items c.args.self.now c.args.place k c.self.view_is c.requires.within c.index-kept.ensures
    c.self.invariant)
    c.index-scene.ensures (c.cells_named.ensures ∙ ap (λ (list : List ℕ). k.top ++ under list k.names.lower) c.deref.ensures.value))
