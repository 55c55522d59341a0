use Rattle.cmd_run.proofs.Words.{given_of, bytes_of, outputs_from}
use Rattle.cmd_run.proofs.LinkLemmas.{link_saved, link_unsaved, no_memory_saves, on_err, on_ok}
use Rattle.cmd_run.proofs.link_files.save_link.Goals as goal

pub returns-in-Ok-clause-saves : goal.returns-in-Ok-clause-saves
returns-in-Ok-clause-saves g c =
    on_ok c.save_both.result _ _
    (λ left. link_saved c.args.constants.now c.args.course.program c.args.course.run (outputs_from c.args.outputs) (given_of c.args.inputs)
    (bytes_of c.in-Ok.made.trace) c.in-Ok.made.statement c.in-Ok.ensures.table c.in-Ok.ensures.statement _ _) c.save_both.ensures.saves

pub returns-in-Ok-clause-ends : goal.returns-in-Ok-clause-ends
returns-in-Ok-clause-ends g c =
    on_err c.save_both.result _ _
    (λ end. link_unsaved c.args.constants.now c.args.course.program c.args.course.run (outputs_from c.args.outputs) (given_of c.args.inputs)
    (bytes_of c.in-Ok.made.trace) c.in-Ok.made.statement c.in-Ok.ensures.table c.in-Ok.ensures.statement end _ _) c.save_both.ensures.ends

pub returns-in-Err-clause-ends : goal.returns-in-Err-clause-ends
returns-in-Err-clause-ends g c =
    no_memory_saves c.args.constants.now c.args.course.program c.args.course.run (outputs_from c.args.outputs) (given_of c.args.inputs) _
