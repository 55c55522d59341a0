use Rattle.masm_parse.proofs.Ordering.{given_in_order}
use Rattle.masm_parse.proofs.parsing.parse.Goals as goal

pub returns-clause-order : goal.returns-clause-order
returns-clause-order c =
    given_in_order c.args.kernel c.args.source.now c.args.tokens.now c.read_tokens.result c.requires.tokens c.read_tokens.ensures
