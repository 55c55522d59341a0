use Rattle.std.proofs.Common.{codes, decimal}
use Rattle.std.proofs.lemmas.Bool.{ne_eqb}
use Rattle.std.proofs.lemmas.Result.{on_ok_weaker}
use Rattle.show_text.proofs.Lines.{three_more}
use Rattle.show_text.proofs.counts.append_statement_count.Goals as goal

pub returns : goal.returns
returns c =
    rw (ne_eqb c.args.given 0 c.if-given-eq0.false)
    (on_ok_weaker c.append-2.result (λ is.
    three_more c.args.text.now (codes "statement gives ") (decimal c.args.given) (codes "\n") _ _ _ c.in_ok-append.ensures.ok c.in_ok-append_count.ensures is)
    c.append-2.ensures.ok)
