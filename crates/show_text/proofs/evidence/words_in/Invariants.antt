use Rattle.std.proofs.Common.{◌≡◌, map}
use Rattle.show_text.proofs.evidence.words_in.Given as goal

-- the words so far were kept
abbrev pub invariant-loop-word : goal.invariant-loop-word
invariant-loop-word l = map (λ word. word.now) l.words.items ≡ map (λ word. word.now) l.yielded
