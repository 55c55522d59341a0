use Rattle.cmd_words.proofs.WordsLemmas.{no_name}
use Rattle.cmd_words.proofs.names.file_name.Goals as goal

pub returns-in_default-clause-name : goal.returns-in_default-clause-name
returns-in_default-clause-name c = no_name _ c.in_default.ensures.cases.0
