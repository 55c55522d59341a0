use Rattle.masm_uses.proofs.Words.{ap, ◌∙◌, filter}
use Rattle.masm_uses.proofs.PlanLemmas.{is_unmarked, with_fresh}
use Rattle.masm_uses.proofs.planning.mark_row.Goals as goal

pub returns-clause-marks : goal.returns-clause-marks
returns-clause-marks c = with_fresh _ _ c.args.row.now _ c.mark_all.ensures
    (c.in_ok-fresh.ensures ∙ ap (λ marks. filter (is_unmarked marks) c.args.row.now) c.deref.ensures.value)

pub returns-clause-fresh : goal.returns-clause-fresh
returns-clause-fresh c = c.in_ok-fresh.ensures ∙ ap (λ marks. filter (is_unmarked marks) c.args.row.now) c.deref.ensures.value
