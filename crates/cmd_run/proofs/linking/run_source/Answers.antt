use Rattle.cmd_run.proofs.Words.{constants_of, given_of, file_of, outputs_from}
use Rattle.cmd_run.proofs.LinkLemmas.{both_ok, came_ends_saving, came_goes, on_err, stopped_of_link}
use Rattle.cmd_run.proofs.linking.run_source.Goals as goal

pub returns-in-Ok-clause-loads : goal.returns-in-Ok-clause-loads
returns-in-Ok-clause-loads g c =
    both_ok c.save_link.result _ _ _ c.save_link.ensures.left c.save_link.ensures.saves
    (λ left is saves. came_goes c.args.constants.now c.args.before (outputs_from c.args.outputs) (file_of c.args.source.now) (given_of c.args.inputs)
    c.in-Ok.course c.in-Ok.ensures.came left _ _ is saves)

pub returns-in-Ok-clause-ends : goal.returns-in-Ok-clause-ends
returns-in-Ok-clause-ends g c =
    on_err c.save_link.result _ _
    (λ end ends. came_ends_saving c.args.constants.now c.args.before (outputs_from c.args.outputs) (file_of c.args.source.now) (given_of c.args.inputs)
    c.in-Ok.course c.in-Ok.ensures.came end _ _ ends) c.save_link.ensures.ends

pub returns-in-Err-clause-ends : goal.returns-in-Err-clause-ends
returns-in-Err-clause-ends g c =
    stopped_of_link (constants_of c.args.constants.now) c.args.before (outputs_from c.args.outputs) (file_of c.args.source.now) (given_of c.args.inputs)
    c.in-Err.end c.told_of_link.result _ c.in-Err.ensures.stopped c.told_of_link.ensures
