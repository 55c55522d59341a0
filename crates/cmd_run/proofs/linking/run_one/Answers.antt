use Rattle.cmd_run.proofs.Words.{constants_of, given_of, file_of, link_from}
use Rattle.cmd_run.proofs.LinkLemmas.{ends_running, goes_running, on_err, on_ok}
use Rattle.cmd_run.proofs.linking.run_one.Goals as goal

pub returns-clause-loads : goal.returns-clause-loads
returns-clause-loads g c =
    on_ok c.run_source.result _ _
    (λ outputs goes. goes_running (constants_of c.args.constants.now) c.args.before c.args.left (link_from c.args.link) (file_of c.in_ok-source.source)
    _ _ c.in_ok-source.ensures.loads (given_of c.in_ok-given.given) _ c.in_ok-given.ensures.loads (given_of c.in_ok-inputs.inputs)
    c.in_ok-inputs.ensures.begins outputs _ goes) c.run_source.ensures.loads

pub returns-clause-ends : goal.returns-clause-ends
returns-clause-ends g c =
    on_err c.run_source.result _ _
    (λ end ends. ends_running (constants_of c.args.constants.now) c.args.before c.args.left (link_from c.args.link) (file_of c.in_ok-source.source) _ _
    c.in_ok-source.ensures.loads (given_of c.in_ok-given.given) _ c.in_ok-given.ensures.loads (given_of c.in_ok-inputs.inputs)
    c.in_ok-inputs.ensures.begins end _ ends) c.run_source.ensures.ends
