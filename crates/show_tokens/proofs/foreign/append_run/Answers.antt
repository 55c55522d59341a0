use Rattle.show_tokens.proofs.foreign.append_run.Goals as goal

pub returns-then-is_kernel : goal.returns-then-is_kernel
returns-then-is_kernel c = rw c.if-is_kernel.true (rw c.word-name.ensures at c.append_sentence.ensures)

pub returns-else-is_kernel : goal.returns-else-is_kernel
returns-else-is_kernel c = rw c.if-is_kernel.false (rw c.word-name.ensures at c.append_sentence-else-is_kernel.ensures)
