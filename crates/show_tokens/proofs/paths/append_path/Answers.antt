use Rattle.show_tokens.proofs.paths.append_path.Goals as goal

pub returns : goal.returns
returns c = rw (c.as_slice.ensures.value, c.in_ok-pieces.ensures, c.first_part.ensures) at c.append_pieces.ensures
