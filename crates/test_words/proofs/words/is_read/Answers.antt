use Rattle.std.proofs.Common.{map, subst, sym}
use Rattle.cmd_reading.specs.Form.{AllText}
use Rattle.test_words.proofs.words.is_read.Goals as goal

pub read_words-requires-clause-text : goal.read_words-requires-clause-text
read_words-requires-clause-text c = subst (λ xs. AllText (map (λ s. s.now) xs)) (sym c.as_slice.ensures.value) c.in-Ok.ensures.text
