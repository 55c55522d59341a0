use Rattle.show_why.proofs.syntax.append_inside.Goals as goal

pub returns : goal.returns
returns c =
    rw (
      c.as_bytes-line.ensures.value,
      c.format.ensures.text,
      c.as_bytes-column.ensures.value,
      c.format-2.ensures.text,
      c.word-by.ensures,
      c.spelled.ensures,
      c.word.ensures,
    ) at c.append_sentence.ensures
