use Rattle.cmd_run.proofs.Words.{given_of, bytes_of}
use Rattle.cmd_run.proofs.RunLemmas.{saved_ends, unsaved_ends}
use Rattle.cmd_run.proofs.ran.save_run.Goals as goal

pub returns-in-Ok : goal.returns-in-Ok
returns-in-Ok g c =
    saved_ends _ c.args.constants.now c.args.course.program c.args.course.run (given_of c.args.inputs) (bytes_of c.in-Ok.made.trace)
    c.in-Ok.made.statement c.in-Ok.made.line _ _ _
    c.in-Ok.ensures.table c.in-Ok.ensures.statement c.in-Ok.ensures.line c.save_made.ensures

pub returns-in-Err : goal.returns-in-Err
returns-in-Err g c = unsaved_ends _ c.args.constants.now c.args.course.program c.args.course.run (given_of c.args.inputs) _
