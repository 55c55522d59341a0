use Rattle.show_tokens.proofs.other_names.append_no_name.Goals as goal

pub returns : goal.returns
returns c = rw c.word.ensures at c.append_sentence.ensures
