-- All pieces are all rows.
use Rattle.std.proofs.Common.{subst}
use Rattle.air_kit.specs.Traces.{claim_of}
use Rattle.checker.specs.Answers.{IsPartAnswer}
use Rattle.checker.proofs.PieceLemmas.{all_answered}
use Rattle.checker.proofs.rows.check_rows.Goals as goal

pub returns : goal.returns
returns g c = record {
  exact = all_answered (claim_of c.args.public.now c.args.trace.now) c.args.trace.now c.all.result c.args.pieces c.part_fault.result c.all.ensures.pieces
      c.all.ensures.low c.all.ensures.high
      (subst (λ claim. IsPartAnswer claim c.args.trace.now c.all.result c.part_fault.result) c.of-setting.ensures.claim c.part_fault.ensures);
}
