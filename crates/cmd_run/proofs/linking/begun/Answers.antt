use Rattle.cmd_run.proofs.Words.{given_of}
use Rattle.cmd_run.proofs.LinkLemmas.{two_stacks}
use Rattle.cmd_run.proofs.linking.begun.Goals as goal

pub returns-then-not-is_empty-clause-ends : goal.returns-then-not-is_empty-clause-ends
returns-then-not-is_empty-clause-ends c =
    rw c.in-Some.is
    (two_stacks c.args.name.now c.in-Some.cells (given_of c.args.given)
    (λ none. let t = c.is_empty.ensures.none.1 none in let f = c.if-not-is_empty.true in cc) _ c.malformed_text.ensures)
