use Rattle.cmd_run.proofs.Words.{constants_of, given_of, limit_line, trap_line, trapped, unended}
use Rattle.cmd_kit.specs.declared.status.Status.TheVariants as status
use Rattle.cmd_run.proofs.CourseLemmas.{halt_says}
use Rattle.cmd_run.proofs.course.run_of.Goals as goal

pub returns-in-Err-Trap-clause-stopped : goal.returns-in-Err-Trap-clause-stopped
returns-in-Err-Trap-clause-stopped c =
    halt_says (constants_of c.args.constants.now) c.args.program (given_of c.args.inputs.now) c.args.limit status.Trap
    (trap_line c.in-Err-Trap.clock c.in-Err-Trap.cause) _
    (trapped c.in-Err-Trap.clock c.in-Err-Trap.cause (rw c.in-Err-Trap.field-0-is at c.in-Err-Trap.ensures.is)) c.trapped.ensures

pub returns-in-Err-OutOfCycles-clause-stopped : goal.returns-in-Err-OutOfCycles-clause-stopped
returns-in-Err-OutOfCycles-clause-stopped c =
    halt_says (constants_of c.args.constants.now) c.args.program (given_of c.args.inputs.now) c.args.limit status.OutOfCycles
    (limit_line c.args.limit) _
    (unended (rw c.in-Err-OutOfCycles.field-0-is at c.in-Err-OutOfCycles.ensures.is)) c.out_of_cycles.ensures
