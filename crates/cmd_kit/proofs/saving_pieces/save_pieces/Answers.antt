use Rattle.cmd_kit.proofs.ServingLemmas.{write_fault_ends}
use Rattle.cmd_kit.proofs.saving_pieces.save_pieces.Goals as goal

pub returns-in-Err-Failed-clause-stopped : goal.returns-in-Err-Failed-clause-stopped
returns-in-Err-Failed-clause-stopped g c right next fit =
    let h = rw c.in-Err-Failed.field-0-is at c.in-Err-Failed.ensures.step in
    write_fault_ends _ right next _ _ _ _ c.requires fit h c.named_answer.ensures
