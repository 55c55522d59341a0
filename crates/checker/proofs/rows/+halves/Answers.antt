-- The answers of both halves are put together.
use Rattle.std.proofs.Common.{sym, subst}
use Rattle.checker.specs.Answers.{IsPartAnswer}
use Rattle.checker.specs.Settings.{claim_in}
use Rattle.checker.proofs.PieceLemmas.{halves_answered}
use Rattle.checker.proofs.rows.+halves.Goals as goal

pub returns : goal.returns
returns g t c =
    subst
    (IsPartAnswer (claim_in c.args.setting.now) c.args.trace.now c.args.part)
    (sym c.or.ensures)
    (halves_answered (claim_in c.args.setting.now) c.args.trace.now c.args.part c.halves.result.0 c.halves.result.1 c.join-left.result.0
    c.join-left.result.1 c.halves.ensures.pieces c.halves.ensures.low c.halves.ensures.middle c.halves.ensures.high c.join-left.ensures.first
    c.join-left.ensures.second)
