use Rattle.std.proofs.Common.{◌≡◌, map, take}
use Rattle.cmd_words.specs.Words.{texts}
use Rattle.cmd_reading.specs.Form.{AllText}
use Rattle.cmd_reading.proofs.texts.texts_of.Given as goal

abbrev pub invariant-loop-word : goal.invariant-loop-word
invariant-loop-word l = record {
  same : map (λ s. s.now) l.texts.items ≡ texts (take l.word-index l.words);
  text : AllText (map (λ s. s.now) l.texts.items);
}
