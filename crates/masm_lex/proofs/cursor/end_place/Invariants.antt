use Rattle.std.proofs.Common.{◌≡◌, drop}
use Rattle.std.specs.List.{fold}
use Rattle.masm_lex.specs.Tokens.{next, place_after}
use Rattle.masm_lex.proofs.Places.{IsCounted}
use Rattle.masm_lex.proofs.cursor.end_place.Given as goal

abbrev pub invariant-loop-byte : goal.invariant-loop-byte
invariant-loop-byte l =
    (fold next l.place (drop l.byte-index l.source) ≡ place_after l.source) × IsCounted l.place l.byte-index
