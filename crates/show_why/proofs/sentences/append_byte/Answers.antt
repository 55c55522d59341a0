use Rattle.show_why.proofs.sentences.append_byte.Goals as goal

pub returns : goal.returns
returns c = rw (c.as_bytes-byte.ensures.value, c.format.ensures.text) at c.append_sentence.ensures
