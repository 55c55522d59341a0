use Rattle.show_tokens.proofs.forms.append_none.Goals as goal

pub returns : goal.returns
returns c = rw (c.as_bytes-count.ensures.value, c.format.ensures.text, c.word.ensures) at c.append_sentence.ensures
