use Rattle.std.proofs.Common.{sym, subst, ◌∙◌, ◌<◌}
use Rattle.air_decoder.proofs.BlockLemmas.{end_clean, join_clean, repeat_clean, split_clean}
use Rattle.air_decoder.proofs.quick.has_block.Goals as goal

pub returns-then-code-opcode : goal.returns-then-code-opcode
returns-then-code-opcode g c = λ is.
    end_clean _ _ c.args.op c.requires.has
    (sym c.opcode-code.ensures.is ∙ c.if-code-opcode.true ∙ c.opcode.ensures.is) c.requires.outside (c.is_end.ensures is)

pub returns-then-code-opcode-2 : goal.returns-then-code-opcode-2
returns-then-code-opcode-2 g c = λ is.
    join_clean _ _ c.args.op c.requires.has
    (sym c.opcode-code.ensures.is ∙ c.if-code-opcode-2.true ∙ c.opcode-2.ensures.is) c.requires.outside (c.is_opening.ensures is)

pub returns-then-is_bit : goal.returns-then-is_bit
returns-then-is_bit g c = λ is.
    split_clean _ _ c.args.op c.requires.has
    (sym c.opcode-code.ensures.is ∙ c.if-code-opcode-3.true ∙ c.opcode-3.ensures.is) c.requires.outside
    (subst (λ a. a < 2) c.s0.ensures.is (c.is_bit.ensures c.if-is_bit.true)) (c.is_opening-then-is_bit.ensures is)

pub returns-then-code-opcode-4 : goal.returns-then-code-opcode-4
returns-then-code-opcode-4 g c = λ is.
    repeat_clean _ _ c.args.op c.requires.has
    (sym c.opcode-code.ensures.is ∙ c.if-code-opcode-4.true ∙ c.opcode-4.ensures.is) c.requires.outside (c.is_repeat.ensures is)
