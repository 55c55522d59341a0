use Rattle.masm_parse.proofs.Words.{◌≡◌, drop, parse_from, parsed}
use Rattle.masm_parse.specs.Views.{parser_view}
use Rattle.masm_parse.proofs.parsing.read_tokens.Given as goal

abbrev pub invariant-loop-token : goal.invariant-loop-token
invariant-loop-token l =
    parse_from l.kernel l.source (parser_view l.parser) (drop l.token-index l.items) ≡ parsed l.kernel l.source l.items
