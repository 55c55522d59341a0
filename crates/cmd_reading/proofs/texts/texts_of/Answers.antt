use Rattle.std.proofs.Common.{◌≡◌, ◌∙◌, ◌+◌, take, ◌++◌, ◌∷◌, [], map, subst}
use Rattle.cmd_words.specs.Words.{texts}
use Rattle.cmd_reading.specs.Form.{AllText}
use Rattle.cmd_reading.proofs.TextLemmas.{more_read, more_texts, pushed, text_here}
use Rattle.cmd_reading.proofs.texts.texts_of.Goals as goal

pub returns-in_default-clause-usage : goal.returns-in_default-clause-usage
returns-in_default-clause-usage c = λ e all.
    c.in_default.ensures.cases.0
    (rw c.as_slice.ensures.value
    (text_here c.args.words.now all c.loop-word.word-index c.word-item.result c.loop-word-test.true c.word-item.is))

pub loop-word-preserved : goal.loop-word-preserved
loop-word-preserved c =
    let more = pushed _ c.push.new.self.items c.loop-word.texts.items
    (c.loop-word.texts.items ++ c.in-Ok.text ∷ []) c.push.ensures.items c.if-is_err.ensures.negation in
    record {
      same = subst (λ xs. map (λ s. s.now) xs ≡ texts (take (c.loop-word.word-index + 1) c.args.words.now)) more
          (more_read c.loop-word.texts.items c.in-Ok.text c.args.words.now c.loop-word.word-index c.word-item.result c.loop-word.invariant.same
          c.loop-word-test.true c.word-item.is (c.in-Ok.ensures.cases.0 ∙ c.as_slice.ensures.value));
      text = subst (λ xs. AllText (map (λ s. s.now) xs)) more
          (more_texts c.loop-word.texts.items c.in-Ok.text c.loop-word.invariant.text (rw c.in-Ok.ensures.cases.0 c.in-Ok.ensures.cases.1));
    }
