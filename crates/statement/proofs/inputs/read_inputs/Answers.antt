use Rattle.std.proofs.lemmas.Result.{err_from_is_err_and}
use Rattle.serde_json.specs.View.{view}
use Rattle.statement.specs.Inputs.{given_by, given_of, inputs_of}
use Rattle.statement.proofs.Steps.{stops}
use Rattle.statement.proofs.inputs.read_inputs.Goals as goal

pub returns-in_err-value : goal.returns-in_err-value
unfolding inputs_of
returns-in_err-value c =
    let p = err_from_is_err_and c.from_residual.result c.from_residual.ensures.1 in
    rw (p.1, p.2) (stops view given_of _ _ given_by c.in_err-value.ensures)

pub returns : goal.returns
unfolding inputs_of
returns c = rw c.in_ok-value.ensures c.inputs_from.ensures
