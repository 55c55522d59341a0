use Rattle.masm_uses.proofs.Words.{false, get_or, refl, sym, ap, subst, ◌∙◌, All-push, All, Step, StepsTo, passed, built, EndsInGraph, keeps_list}
use Rattle.masm_uses.proofs.Words.{ended_lists, makes_digest, no_ends}
use Rattle.masm_uses.proofs.PlanLemmas.{step_ends}
use Rattle.masm_uses.proofs.planning.add_step.Goals as goal

pub returns-then-not-referred-clause-lists : goal.returns-then-not-referred-clause-lists
returns-then-not-referred-clause-lists c =
    passed (ap (λ marks. get_or marks c.args.place false) (sym c.deref.ensures.value) ∙ (sym c.is_marked-kept.ensures ∙ c.if-not-kept.true))

pub returns-then-not-referred-clause-digests : goal.returns-then-not-referred-clause-digests
returns-then-not-referred-clause-digests c =
    passed (ap (λ marks. get_or marks c.args.place false) (sym c.deref-2.ensures.value) ∙ (sym c.is_marked-referred.ensures ∙ c.if-not-referred.true))

pub returns-clause-lists : goal.returns-clause-lists
returns-clause-lists c =
    let a = c.args in
    let made = c.is_marked-kept.ensures ∙ ap (λ marks. get_or marks a.place false) c.deref.ensures.value in
    subst (StepsTo keeps_list ended_lists a.place a.lists.now a.needed.now.lists.items a.steps.now.items c.mark_row.new.marks.items)
    (sym c.in_ok-push.ensures.items) (built _ _ made refl c.in_ok-ended.ensures.marks)

pub returns-clause-digests : goal.returns-clause-digests
returns-clause-digests c =
    let a = c.args in
    let made = c.is_marked-referred.ensures ∙ ap (λ marks. get_or marks a.place false) c.deref-2.ensures.value in
    subst (StepsTo makes_digest no_ends a.place a.digests.now a.needed.now.digests.items a.steps.now.items c.mark_all.new.marks.items)
    (sym c.in_ok-push.ensures.items) (built _ _ made refl c.mark_all.ensures)

pub returns-clause-ended : goal.returns-clause-ended
returns-clause-ended c = λ graph is before.
    let a = c.args in
    let step : Step = record {
      place = a.place;
      ended = c.in_ok-ended.ended;
      kept = c.is_marked-kept.result;
      referred = c.is_marked-referred.result;
    } in
    subst (All (EndsInGraph graph)) (sym c.in_ok-push.ensures.items)
    (All-push (EndsInGraph graph) a.steps.now.items step before
    (step_ends graph step a.place a.lists.now a.needed.now.lists.items is refl c.in_ok-ended.ensures.fresh))
