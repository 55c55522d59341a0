use Rattle.rpo_hash.specs.Constants.{constants_of}
use Rattle.cmd_kit.specs.Starts.{statement_steps, trace_steps}
use Rattle.show_app.specs.ShowSteps.{judging_steps}
use Rattle.show_app.proofs.explaining.read_and_explain.Goals as goal

pub returns : goal.returns
returns g c =
    let table = c.args.names.table.now in
    let statement = c.args.names.statement.now in
    let constants = constants_of c.in_ok-params.params in
    c.in_ok-params.ensures.loads (λ k. trace_steps table (λ t. statement_steps statement (judging_steps k t))) _ _
    (c.in_ok-trace.ensures.loads (λ t. statement_steps statement (judging_steps constants t)) _ _
    (c.in_ok-statement.ensures.loads (judging_steps constants c.in_ok-trace.trace) _ _ (c.explain.ensures _)))
