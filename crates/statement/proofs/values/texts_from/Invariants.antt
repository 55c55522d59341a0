use Rattle.std.proofs.Common.{◌≡◌, map, take}
use Rattle.serde_json.specs.Data.{string}
use Rattle.serde_json.specs.View.{view}
use Rattle.vm_field.specs.WordText.{word_hex}
use Rattle.statement.proofs.values.texts_from.Given as goal

abbrev pub invariant-loop-word : goal.invariant-loop-word
invariant-loop-word l = map view l.items.items ≡ map (λ w. string (word_hex w)) (take l.word-index l.words)
