use Rattle.std.proofs.Common.{List, [], ◌∷◌, ◌++◌, ◌∙◌, ap, ap₂, refl}
use Rattle.machine_cycles.specs.declared.event.Event.{Event}
use Rattle.machine_cycles.specs.Kept.{events_of}
use Rattle.machine_cycles.proofs.KeptLemmas.{events-kept, events-next, kept-shows, names-kept, names-next, on_err}
use Rattle.machine_cycles.proofs.log.Events.push.Goals as goal

pub returns-in_err-names-clause-err : goal.returns-in_err-names-clause-err
returns-in_err-names-clause-err c =
    on_err c.from_residual.result
    (events-kept c.self.inside.lists c.names.new.self c.names.ensures.grown c.self.inside.items.items c.self.invariant ∙ c.self.view_is)

pub invariant_of-self-in_err-push : goal.invariant_of-self-in_err-push
invariant_of-self-in_err-push c =
    rw c.in_err-push.ensures.items
    (names-kept c.self.inside.lists c.names.new.self c.names.ensures.grown c.self.inside.items.items c.self.invariant)

pub returns-in_err-push-clause-err : goal.returns-in_err-push-clause-err
returns-in_err-push-clause-err c =
    on_err c.from_residual-in_err-push.result
    (ap (λ ks. events_of c.names.new.self ks) c.in_err-push.ensures.items
    ∙ events-kept c.self.inside.lists c.names.new.self c.names.ensures.grown c.self.inside.items.items c.self.invariant ∙ c.self.view_is)

pub invariant_of-self-2 : goal.invariant_of-self-2
invariant_of-self-2 c =
    names-next c.self.inside.lists c.names.new.self c.names.ensures.grown c.self.inside.items.items c.push.new.self.items _ c.self.invariant
    c.in_ok-push.ensures.items c.in_ok-names.ensures.named.within

pub returns-clause-ok : goal.returns-clause-ok
returns-clause-ok c =
    events-next c.self.inside.lists c.names.new.self c.names.ensures.grown c.self.inside.items.items c.push.new.self.items _ c.self.invariant
    c.in_ok-push.ensures.items
    ∙ ap₂ (λ (es : List Event) (e : Event). es ++ e ∷ []) c.self.view_is
    (kept-shows c.names.new.self _ c.args.before.now c.args.elements.now c.in_ok-names.ensures.named refl refl c.top_cells.ensures)
