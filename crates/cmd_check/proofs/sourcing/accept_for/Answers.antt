use Rattle.cmd_check.proofs.Words.{tree_of}
use Rattle.cmd_check.proofs.SourcingLemmas.{apart_ends}
use Rattle.cmd_check.proofs.sourcing.accept_for.Goals as goal

pub returns-in-Err : goal.returns-in-Err
returns-in-Err g c =
    apart_ends c.args.valid.now.public c.args.valid.now.trace c.args.name.now (tree_of c.args.program.now.tree) c.args.ran.now c.in-Err.apart _
    c.in-Err.ensures.apart
