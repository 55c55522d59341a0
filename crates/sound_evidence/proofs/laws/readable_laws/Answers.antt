use Rattle.sound_evidence.proofs.ReadRows.{counts_readable}
use Rattle.sound_evidence.proofs.laws.readable_laws.Goals as goal

pub returns : goal.returns
returns c = record { readable = counts_readable }
