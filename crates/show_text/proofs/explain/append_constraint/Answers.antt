use Rattle.std.proofs.Common.{◌++◌, codes, ap, ◌∙◌}
use Rattle.show_text.proofs.Lines.{three_more}
use Rattle.show_text.proofs.explain.append_constraint.Goals as goal

pub returns : goal.returns
returns c =
    three_more c.args.text.now (codes "constraint ") _ (codes "\n") _ _ _ c.in_ok-append.ensures.ok
    (c.in_ok-append-2.ensures.ok ∙ ap (λ x. c.append.new.self ++ x) (c.as_bytes.ensures.value ∙ c.words_of.ensures))
    c.in_ok-append-3.ensures.ok
