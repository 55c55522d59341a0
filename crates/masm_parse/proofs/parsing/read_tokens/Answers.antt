use Rattle.masm_parse.proofs.Words.{◌<◌, length, subst}
use Rattle.masm_lex.proofs.Parts.{tokens_are_parts}
use Rattle.masm_parse.proofs.parsing.read_tokens.Goals as goal

pub step-requires : goal.step-requires
step-requires c =
    rw c.as_slice-items.ensures.items
    (tokens_are_parts c.args.source.now c.args.tokens.now c.requires.tokens c.loop-token.token-index _
    (subst (λ items. c.loop-token.token-index < length items) c.as_slice-items.ensures.items c.loop-token-test.true))
