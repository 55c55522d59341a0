use Rattle.masm_lex.proofs.Parts.{tokens_are_parts}
use Rattle.masm_lex.proofs.list.tokens_are_parts.Goals as goal

pub returns : goal.returns
returns c = tokens_are_parts
