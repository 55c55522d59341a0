use Rattle.fill_files.proofs.AcceptedLemmas.{files_accepted}
use Rattle.fill_files.proofs.laws.file_laws.Goals as goal

pub returns : goal.returns
returns c = record { accepted = files_accepted }
