use Rattle.masm_lex.proofs.Lexing.{Going}
use Rattle.masm_lex.proofs.lexer.lex.Given as goal

abbrev pub invariant-loop-byte : goal.invariant-loop-byte
invariant-loop-byte l = Going l.tokens l.spot l.here l.source l.byte-index
