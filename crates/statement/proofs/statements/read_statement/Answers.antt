use Rattle.std.proofs.lemmas.Result.{err_from_is_err_and}
use Rattle.serde_json.specs.View.{view}
use Rattle.statement.specs.Statements.{claim_by, stated_of, statement_of}
use Rattle.statement.proofs.Steps.{stops}
use Rattle.statement.proofs.statements.read_statement.Goals as goal

pub returns-in_err-value : goal.returns-in_err-value
unfolding statement_of
returns-in_err-value c =
    let p = err_from_is_err_and c.from_residual.result c.from_residual.ensures.1 in
    rw (p.1, p.2) (stops view stated_of _ _ claim_by c.in_err-value.ensures)

pub returns : goal.returns
unfolding statement_of
returns c = rw c.in_ok-value.ensures c.statement_by.ensures
