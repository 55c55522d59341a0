use Rattle.cmd_check.proofs.Words.{tree_of}
use Rattle.cmd_check.proofs.SourcingLemmas.{accepted_for, refused_for}
use Rattle.cmd_check.proofs.sourcing.judge_for.Goals as goal

pub returns-in-Ok : goal.returns-in-Ok
returns-in-Ok g c =
    accepted_for c.args.public c.args.trace c.args.names.evidence.now (tree_of c.args.program.now.tree) c.args.ran.now c.accept_for.result
    (g.F.Shelf.state c.args.shelf.now) (g.F.Shelf.state c.accept_for.new.shelf) c.in-Ok.ensures.ok
    (rw (c.in-Ok.ensures.trace, c.in-Ok.ensures.public) at c.accept_for.ensures)

pub returns-in-Err : goal.returns-in-Err
returns-in-Err g c =
    refused_for c.args.public c.args.trace c.args.names.evidence.now (tree_of c.args.program.now.tree) c.args.ran.now c.in-Err.refused c.refuse.result
    (g.F.Shelf.state c.args.shelf.now) c.in-Err.ensures.err c.refuse.ensures.memory c.refuse.ensures.says
