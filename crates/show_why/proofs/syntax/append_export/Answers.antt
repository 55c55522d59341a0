use Rattle.show_why.proofs.syntax.append_export.Goals as goal

pub returns : goal.returns
returns c = rw c.word.ensures at c.append_sentence.ensures
