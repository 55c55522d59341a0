use Rattle.std.proofs.Common.{◌≡◌, map, drop, bytes_eq}
use Rattle.std.specs.List.{list_any}
use Rattle.masm_reading.proofs.reading.is_among.Given as goal

abbrev pub invariant-loop-word : goal.invariant-loop-word
invariant-loop-word l =
    list_any (λ word. bytes_eq word l.text) (map (λ word. word.now) (drop l.word-index l.words))
    ≡ list_any (λ word. bytes_eq word l.text) (map (λ word. word.now) l.words)
