-- The answers of both halves are put together.
use Rattle.std.proofs.Common.{sym, subst}
use Rattle.checker.specs.Answers.{IsPartAnswer}
use Rattle.checker.specs.Settings.{claim_in}
use Rattle.checker.proofs.PieceLemmas.{doubled_answered, halves_answered}
use Rattle.checker.proofs.rows.piece_fault.Goals as goal

pub returns : goal.returns
returns g c =
    subst
    (IsPartAnswer (claim_in c.args.setting.now) c.args.trace.now c.args.part)
    (sym c.or.ensures)
    (doubled_answered (claim_in c.args.setting.now) c.args.trace.now c.args.part c.doubled.result _ c.doubled.ensures.pieces c.doubled.ensures.low
    c.doubled.ensures.high
    (halves_answered (claim_in c.args.setting.now) c.args.trace.now c.doubled.result c.halves.result.0 c.halves.result.1 c.join-first.result.0
    c.join-first.result.1 c.halves.ensures.pieces c.halves.ensures.low c.halves.ensures.middle c.halves.ensures.high c.join-first.ensures.first
    c.join-first.ensures.second))
