use Rattle.cmd_check.proofs.Words.{tree_of}
use Rattle.cmd_check.proofs.SourceSize.{has_room}
use Rattle.cmd_check.proofs.sourcing.sourced.Goals as goal

pub check_source-requires-clause-room : goal.check_source-requires-clause-room
check_source-requires-clause-room c =
    has_room c.public-public.result.now c.args.valid.now.public c.trace.result.now (tree_of c.args.program.now.tree) c.public-public.ensures.is
    c.trace.ensures.counts c.requires.few
