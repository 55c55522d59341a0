use Rattle.show_tokens.proofs.forms.append_one.Goals as goal

pub returns : goal.returns
returns c =
    rw (c.as_bytes-low.ensures.value, c.format.ensures.text, c.word.ensures, c.word-2.ensures)
    at c.append_sentence.ensures
