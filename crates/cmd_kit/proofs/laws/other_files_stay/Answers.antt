use Rattle.cmd_kit.proofs.LawLemmas.{other_files_stay}
use Rattle.cmd_kit.proofs.WriteLaw.{commands_write}
use Rattle.cmd_kit.proofs.laws.other_files_stay.Goals as goal

pub returns-clause-stay : goal.returns-clause-stay
returns-clause-stay c = other_files_stay

pub returns-clause-write : goal.returns-clause-write
returns-clause-write c = commands_write
