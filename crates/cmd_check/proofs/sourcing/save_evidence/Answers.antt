use Rattle.cmd_check.proofs.Words.{◌∙◌, constants_of, stated_of, sourced_steps, ending, source_evidence_for, telling_source, says_line, same_again}
use Rattle.cmd_check.proofs.SourcingLemmas.{right_text, told_source}
use Rattle.cmd_check.proofs.sourcing.save_evidence.Goals as goal

pub returns-in_default : goal.returns-in_default
returns-in_default g c = λ public trace tree is.
    same_again (sourced_steps c.args.name.now (constants_of public.params) (stated_of public.statement) trace tree c.args.ran.now) _

pub returns-in-Ok-save : goal.returns-in-Ok-save
returns-in-Ok-save g c = λ public trace tree is.
    let text = c.as_slice.ensures.items ∙ c.in-Ok.ensures in
    c.in-Ok-save.ensures.written (source_evidence_for (constants_of public.params) (stated_of public.statement) trace tree)
    (λ bytes. ending (telling_source (constants_of public.params) (stated_of public.statement) trace tree c.args.ran.now bytes))
    (right_text public trace c.args.name.now tree c.args.ran.now c.args.evidence.now _ is text) _ _
    (told_source public trace c.args.name.now tree c.args.ran.now c.args.evidence.now _ _ _ is text
    (says_line _ _ _ _ c.answered.ensures c.accepted_text.ensures))

pub returns : goal.returns
returns g c = λ public trace tree is.
    c.in-Err.ensures.stopped (source_evidence_for (constants_of public.params) (stated_of public.statement) trace tree)
    (λ bytes. ending (telling_source (constants_of public.params) (stated_of public.statement) trace tree c.args.ran.now bytes))
    (right_text public trace c.args.name.now tree c.args.ran.now c.args.evidence.now _ is (c.as_slice.ensures.items ∙ c.in-Ok.ensures))
