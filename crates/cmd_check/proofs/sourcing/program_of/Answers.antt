use Rattle.cmd_check.proofs.SourceSize.{few_assembled}
use Rattle.cmd_check.proofs.SourcingLemmas.{refused_build}
use Rattle.cmd_check.proofs.sourcing.program_of.Goals as goal

pub returns-in-Err-Bad-clause-unbuilt : goal.returns-in-Err-Bad-clause-unbuilt
returns-in-Err-Bad-clause-unbuilt c =
    refused_build _ _ _ c.in-Err-Bad.in_kernel c.in-Err-Bad.line c.in-Err-Bad.column c.in-Err-Bad.cause _
    (rw c.in-Err-Bad.field-0-is at c.in-Err-Bad.ensures) (rw c.name_of_place-name.ensures at c.refused_source.ensures)

pub returns-in-Ok-clause-few : goal.returns-in-Ok-clause-few
returns-in-Ok-clause-few c = few_assembled _ _ _ _ c.in-Ok.program c.assembled_trees.ensures c.in-Ok.ensures
