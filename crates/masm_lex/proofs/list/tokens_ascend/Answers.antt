use Rattle.masm_lex.proofs.Ascending.{tokens_ascend}
use Rattle.masm_lex.proofs.list.tokens_ascend.Goals as goal

pub returns : goal.returns
returns c = tokens_ascend
