use Rattle.masm_instr.proofs.NameLemmas.{names_are_texts}
use Rattle.masm_instr.proofs.name.names_are_texts.Goals as goal

pub returns : goal.returns
returns c = names_are_texts
