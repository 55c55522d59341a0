use Rattle.vm_field.specs.Limits.{most_cycles}
use Rattle.statement.specs.Inputs.{given_of}
use Rattle.cmd_make.proofs.AcceptedRuns.{accepted_run}
use Rattle.cmd_make.proofs.checked.checked_lines.Goals as goal

pub check_accepted-requires-clause-accepted : goal.check_accepted-requires-clause-accepted
check_accepted-requires-clause-accepted g c κs within =
    accepted_run (record { params = c.args.constants; statement = c.in_ok-statement.statement }) c.args.course.program (given_of c.args.inputs)
    most_cycles c.args.course.run c.in_ok-trace.trace c.in_ok-trace.end.digest c.requires c.in_ok-trace.ensures.file c.in_ok-trace.ensures.reads
    c.in_ok-trace.ensures.digest (rw c.in_ok-trace.ensures.state at c.in_ok-statement.ensures)
