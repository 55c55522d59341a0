use Rattle.cmd_run.proofs.CourseLemmas.{refused_stop, stops_as}
use Rattle.cmd_run.proofs.course.course_of.Goals as goal

pub returns-in-Ok-clause-stopped : goal.returns-in-Ok-clause-stopped
returns-in-Ok-clause-stopped c = stops_as _ _ _ _ _ c.in-Ok.program _ c.in-Ok.ensures c.run_of.ensures.stopped

pub returns-in-Err-Bad-clause-stopped : goal.returns-in-Err-Bad-clause-stopped
returns-in-Err-Bad-clause-stopped c =
    refused_stop _ _ _ _ _ c.in-Err-Bad.in_kernel c.in-Err-Bad.line c.in-Err-Bad.column c.in-Err-Bad.cause _
    (rw c.in-Err-Bad.field-0-is at c.in-Err-Bad.ensures) (rw c.name_of_place-name.ensures at c.refused_source.ensures)
