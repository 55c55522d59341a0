use Rattle.cmd_check.proofs.Words.{constants_of, stated_of, link_from}
use Rattle.cmd_check.proofs.ChainLemmas.{ends_if, ends_judged}
use Rattle.cmd_check.proofs.judging.judge_link.Goals as goal

pub returns-clause-ends : goal.returns-clause-ends
returns-clause-ends g c =
    ends_if c.judge_claim.result _ _
    (ends_judged (constants_of c.args.judging.constants) c.args.before c.args.left (link_from c.args.link) c.in_ok-trace.trace _ _
    c.in_ok-trace.ensures.loads (stated_of c.in_ok-statement.statement) _ c.in_ok-statement.ensures.loads) c.judge_claim.ensures.ends
