use Rattle.std.proofs.Common.{sym, ◌∙◌}
use Rattle.air_decoder.proofs.QuickLemmas.{first_batch_clean, next_batch_clean}
use Rattle.air_decoder.proofs.quick.is_batch_clean.Goals as goal

pub returns-then-is_first_batch : goal.returns-then-is_first_batch
returns-then-is_first_batch g c = λ is.
    first_batch_clean _ _ c.args.op c.requires
    (sym c.opcode-code.ensures.is ∙ c.if-code-opcode.true ∙ c.opcode.ensures.is) (c.is_first_batch.ensures c.if-is_first_batch.true)
    (c.has_batch.ensures is)

pub returns-then-is_next_batch : goal.returns-then-is_next_batch
returns-then-is_next_batch g c = λ is.
    next_batch_clean _ _ c.args.op c.requires
    (sym c.opcode-code.ensures.is ∙ c.if-code-opcode-2.true ∙ c.opcode-2.ensures.is)
    (c.is_next_batch.ensures c.if-is_next_batch.true) (c.has_batch-then-is_next_batch.ensures is)
