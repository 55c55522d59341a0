use Rattle.masm_lex.proofs.Parts.{tokens_are_parts}
use Rattle.masm_lex.proofs.list.token_text.Goals as goal

pub text-requires : goal.text-requires
text-requires c =
    rw c.as_slice.ensures.items (tokens_are_parts c.args.source.now c.args.tokens.now c.requires.tokens c.args.i _ c.requires.i)
