use Rattle.rpo_hash.specs.Constants.{constants_of}
use Rattle.statement.specs.Inputs.{given_of}
use Rattle.cmd_kit.specs.Sources.{file_of}
use Rattle.show_trace.proofs.TraceEnds.{memory_ends, refused_ends, told_ends}
use Rattle.show_trace.proofs.tracing.trace_source.Goals as goal

pub returns-in-Ok : goal.returns-in-Ok
returns-in-Ok c = λ s.
    told_ends (constants_of c.args.constants.now) (file_of c.args.source.now) (given_of c.args.inputs.now) c.args.limit _ c.in-Ok.program _ s
    c.in-Ok.ensures c.trace_program.ensures

pub returns-in-Err-Bad : goal.returns-in-Err-Bad
returns-in-Err-Bad c = λ s.
    refused_ends (constants_of c.args.constants.now) (file_of c.args.source.now) (given_of c.args.inputs.now) c.args.limit _
    c.in-Err-Bad.in_kernel c.in-Err-Bad.line c.in-Err-Bad.column c.in-Err-Bad.cause _ s
    (rw c.in-Err-Bad.field-0-is at c.in-Err-Bad.ensures) (rw c.name_of_place-name.ensures at c.refused_source.ensures)

pub returns-in-Err-Memory : goal.returns-in-Err-Memory
returns-in-Err-Memory c = λ s. memory_ends _ _ _ _ _ s
