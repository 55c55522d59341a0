use Rattle.cmd_check.proofs.Words.{◌∙◌, constants_of, stated_of, ending, evidence_for, telling, says_line}
use Rattle.cmd_check.proofs.CheckLemmas.{evidence_is_right, told_ends}
use Rattle.cmd_check.proofs.checking.accept.Goals as goal

pub returns-in-Ok-save : goal.returns-in-Ok-save
returns-in-Ok-save g c =
    let public = c.args.valid.now.public in
    let trace = c.args.valid.now.trace in
    let text = c.as_slice.ensures.items ∙ c.in-Ok-write_evidence.ensures in
    c.in-Ok-save.ensures.written (evidence_for (constants_of public.params) (stated_of public.statement) trace)
    (λ bytes. ending (telling (constants_of public.params) (stated_of public.statement) trace bytes))
    (evidence_is_right public trace c.in-Ok.evidence _ c.in-Ok.ensures text) _ _
    (told_ends public trace c.in-Ok.evidence _ _ _ c.in-Ok.ensures text (says_line _ _ _ _ c.answered.ensures c.accepted_text.ensures))
