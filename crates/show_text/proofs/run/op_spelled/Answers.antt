use Rattle.std.proofs.Common.{ap, ◌∙◌}
use Rattle.std.proofs.lemmas.Bool.{both_ways}
use Rattle.vm_ops.specs.Codes.{op_at}
use Rattle.show_text.proofs.Spelling.{spelled_bits, spelled_none}
use Rattle.show_text.proofs.run.op_spelled.Goals as goal

pub returns-then-has_bits : goal.returns-then-has_bits
returns-then-has_bits g c =
    spelled_bits (g.V.View.cells c.args.row.now) _ (c.has_bits.ensures.0 c.if-has_bits.true) (c.from_opcode.ensures.is ∙ ap op_at c.code_in.ensures)

pub returns-else-has_bits : goal.returns-else-has_bits
returns-else-has_bits g c =
    spelled_none (g.V.View.cells c.args.row.now) (λ bits. both_ways c.has_bits.result c.if-has_bits.false (c.has_bits.ensures.1 bits))
