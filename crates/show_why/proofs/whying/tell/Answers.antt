use Rattle.cmd_kit.proofs.ServingLemmas.{same_again}
use Rattle.show_why.proofs.WhyLemmas.{assembled_ends, refused_ends}
use Rattle.show_why.proofs.whying.tell.Goals as goal

pub returns-in-Ok : goal.returns-in-Ok
returns-in-Ok c =
    assembled_ends _ _ _ _ c.known_constants.ensures.count c.refusals_know_no_constants.ensures c.one_program.ensures c.in-Ok._program
    c.in-Ok.ensures c.assembled.ensures

pub returns-in-Err-Bad : goal.returns-in-Err-Bad
returns-in-Err-Bad c =
    refused_ends _ _ _ _ c.known_constants.ensures.count c.refusals_know_no_constants.ensures
    (record { in_kernel = c.in-Err-Bad.in_kernel; line = c.in-Err-Bad.line; column = c.in-Err-Bad.column; cause = c.in-Err-Bad.cause })
    (rw c.in-Err-Bad.field-0-is at c.in-Err-Bad.ensures)
    (rw (c.name_of_place-name.ensures, c.text_of_place.ensures.text, c.is_given.ensures) at c.refused.ensures)

pub returns-in-Err-Memory : goal.returns-in-Err-Memory
returns-in-Err-Memory c s = same_again _ s
