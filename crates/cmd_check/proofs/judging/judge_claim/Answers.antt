use Rattle.cmd_check.proofs.Words.{constants_of, judged_of}
use Rattle.cmd_check.proofs.ChainLemmas.{accepted_goes_on, always, broken_ends, lent_cells, memory_ends, refused_ends_link}
use Rattle.cmd_check.proofs.judging.judge_claim.Goals as goal

pub returns-then-not-does_follow-clause-ends : goal.returns-then-not-does_follow-clause-ends
returns-then-not-does_follow-clause-ends g c =
    broken_ends (constants_of c.args.judging.constants) c.args.before c.args.left (judged_of c.args.statement c.args.trace) c.does_follow.result _
    (rw (lent_cells c.as_ref.result c.args.left c.as_ref.ensures.value) at c.does_follow.ensures) c.if-not-does_follow.true c.broken_link.ensures

pub returns-in-Ok-clause-goes : goal.returns-in-Ok-clause-goes
returns-in-Ok-clause-goes g c =
    always c.accept_link.result
    (accepted_goes_on (record { params = c.args.judging.constants; statement = c.args.statement }) c.args.trace c.args.before c.args.left
    c.does_follow.result (rw (lent_cells c.as_ref.result c.args.left c.as_ref.ensures.value) at c.does_follow.ensures) c.if-not-does_follow.false c.in-Ok.ensures.ok)

pub returns-in-Ok-clause-ends : goal.returns-in-Ok-clause-ends
returns-in-Ok-clause-ends g c =
    memory_ends (constants_of c.args.judging.constants) c.args.before c.args.left (judged_of c.args.statement c.args.trace) c.accept_link.result
    c.accept_link.ensures.memory

pub returns-clause-ends : goal.returns-clause-ends
returns-clause-ends g c =
    refused_ends_link (record { params = c.args.judging.constants; statement = c.args.statement }) c.args.trace c.args.before c.args.left
    c.does_follow.result (rw (lent_cells c.as_ref.result c.args.left c.as_ref.ensures.value) at c.does_follow.ensures) c.if-not-does_follow.false c.in-Err.refused _ c.in-Err.ensures.err
    c.refuse_link.ensures.memory c.refuse_link.ensures.says
