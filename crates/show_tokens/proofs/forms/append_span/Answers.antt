use Rattle.show_tokens.proofs.forms.append_span.Goals as goal

pub returns : goal.returns
returns c =
    rw (c.as_bytes-low.ensures.value, c.format.ensures.text, c.as_bytes-high.ensures.value, c.format-2.ensures.text, c.word.ensures, c.word-2.ensures)
    at c.append_sentence.ensures
