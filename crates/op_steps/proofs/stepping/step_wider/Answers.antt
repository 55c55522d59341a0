use Rattle.std.proofs.Common.{sym, refl}
use Rattle.std.proofs.lemmas.Result.{err_from_is_err_and}
use Rattle.op_steps.proofs.Steps.{trapped}
use Rattle.op_steps.proofs.stepping.step_wider.Goals as goal

pub returns-in_err-left : goal.returns-in_err-left
returns-in_err-left c =
    let p = err_from_is_err_and c.from_residual.result c.from_residual.ensures.1 in
    rw (p.1, p.2) (trapped _ _ _ _ (sym c.in_err-left.ensures.is), refl)
