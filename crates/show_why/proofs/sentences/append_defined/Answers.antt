use Rattle.show_why.proofs.sentences.append_defined.Goals as goal

pub returns : goal.returns
returns c =
    rw (c.as_bytes-line.ensures.value, c.format.ensures.text, c.as_bytes-column.ensures.value, c.format-2.ensures.text, c.word.ensures)
    at c.append_sentence.ensures
