use Rattle.std.proofs.Common.{◌≡◌, Bool, false, if◌then◌else◌, [], ◌∷◌, ◌++◌, bytes_eq, codes, map, OnOk, subst, sym, ◌∙◌}
use Rattle.show_tokens.specs.Forms.{parameter}
use Rattle.show_tokens.specs.Words.{sentence, word}
use Rattle.show_why.specs.Sentences.{export_line}
use Rattle.show_why.proofs.syntax.append_early.Goals as goal

pub returns : goal.returns
returns c =
    let other : false ≡ bytes_eq c.args.first.now (codes "export") = rw c.as_slice.ensures at (sym c.if-eq.false ∙ c.eq.ensures) in
    subst (λ (exports : Bool).
    OnOk c.append_sentence.result (c.append_sentence.new.text ≡ c.args.text.now
    ++ (if exports then export_line (parameter (map (λ part. part.now) c.args.more.now))
    else sentence (word c.args.first.now ∷ codes " may not stand outside of begin and of procedures" ∷ []))))
    other (rw c.word.ensures at c.append_sentence.ensures)
