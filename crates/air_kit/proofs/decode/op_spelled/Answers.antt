-- The row's bits are tested once.
use Rattle.std.proofs.Common.{sym, subst}
use Rattle.std.proofs.lemmas.Bool.{both_ways}
use Rattle.air_kit.specs.Decoding.{IsDecoded}
use Rattle.air_kit.proofs.DecodeLemmas.{decoded_at, none_decoded}
use Rattle.air_kit.proofs.decode.op_spelled.Goals as goal

pub returns-then-has_bits : goal.returns-then-has_bits
returns-then-has_bits g c =
    let row = g.V.View.cells c.args.row.now in
    subst (IsDecoded row) (sym c.from_opcode.ensures.is)
    (decoded_at row c.code_in.result (c.has_bits.ensures.0 c.if-has_bits.true) c.code_in.ensures)

pub returns-else-has_bits : goal.returns-else-has_bits
returns-else-has_bits g c =
    none_decoded (g.V.View.cells c.args.row.now) (λ bits. both_ways c.has_bits.result c.if-has_bits.false (c.has_bits.ensures.1 bits))
