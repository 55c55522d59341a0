use Rattle.std.proofs.Common.{ℕ, List, ◌∙◌, ap, sym}
use Rattle.machine_cycles.specs.Kept.{hash_in}
use Rattle.machine_cycles.specs.Names.{elements_named, named, zeros}
use Rattle.machine_cycles.proofs.KeptLemmas.{no_hash, shows}
use Rattle.machine_cycles.proofs.log.Events.hash.Goals as goal

pub returns-in-Immediate : goal.returns-in-Immediate
returns-in-Immediate c =
    shows c.self.inside.lists c.self.inside.items.items c.args.self.now c.args.place
    c.index-kept.result.now c.self.view_is c.requires.within c.index-kept.ensures
    (no_hash c.index-kept.result.now.kind (elements_named c.self.inside.lists c.index-kept.result.now.names) c.in-Immediate.is)

pub returns-in-Block : goal.returns-in-Block
returns-in-Block c =
    shows c.self.inside.lists c.self.inside.items.items c.args.self.now c.args.place
    c.index-kept.result.now c.self.view_is c.requires.within c.index-kept.ensures
    (c.elements_named.ensures ∙ ap (λ (xs : List (List ℕ)). named zeros xs c.index-kept.result.now.names.elements) c.deref.ensures.value
    ∙ ap (λ kind. hash_in kind (elements_named c.self.inside.lists c.index-kept.result.now.names)) (sym c.in-Block.is))
