use Rattle.show_tokens.proofs.foreign.append_pushed.Goals as goal

pub returns : goal.returns
returns c = rw c.word.ensures at c.append_sentence.ensures
