use Rattle.cmd_assemble.proofs.SourceLemmas.{assembly_ends, refused_assembly_ends}
use Rattle.cmd_assemble.proofs.assembly.answer.Goals as goal

pub returns-in-Ok : goal.returns-in-Ok
returns-in-Ok c = assembly_ends _ _ _ c.in-Ok.program _ c.in-Ok.ensures c.assembled.ensures

pub returns-in-Err-Bad : goal.returns-in-Err-Bad
returns-in-Err-Bad c =
    refused_assembly_ends _ _ _ c.in-Err-Bad.in_kernel c.in-Err-Bad.line c.in-Err-Bad.column c.in-Err-Bad.cause _
    (rw c.in-Err-Bad.field-0-is at c.in-Err-Bad.ensures) (rw c.name_of_place-name.ensures at c.refused_source.ensures)
