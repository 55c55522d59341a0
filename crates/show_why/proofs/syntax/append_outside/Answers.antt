use Rattle.show_why.proofs.syntax.append_outside.Goals as goal

pub returns-then-begun : goal.returns-then-begun
returns-then-begun c = rw c.if-begun.true c.append_sentence.ensures

pub returns-else-begun : goal.returns-else-begun
returns-else-begun c = rw c.if-begun.false c.append_early.ensures
