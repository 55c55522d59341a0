use Rattle.std.proofs.Common.{map, drop}
use Rattle.show_text.proofs.Lines.{Goes}
use Rattle.show_text.proofs.evidence.elements_in.Given as goal

-- the elements so far, in front of those of the rest, are all elements
abbrev pub invariant-loop-word : goal.invariant-loop-word
invariant-loop-word l = Goes l.elements (map (λ word. word.now) (drop l.word-index l.words)) (map (λ word. word.now) l.words)
