use Rattle.std.proofs.Common.{codes, decimal}
use Rattle.std.proofs.lemmas.Result.{on_ok_weaker}
use Rattle.show_text.proofs.Lines.{then_more}
use Rattle.show_text.proofs.counts.append_rows_line.Goals as goal

pub returns : goal.returns
returns c =
    on_ok_weaker c.append-3.result (λ is.
    then_more c.args.text.now _ _ _ (codes "\n")
    (then_more c.args.text.now _ _ _ (decimal c.args.giving)
    (then_more c.args.text.now _ _ _ (codes " giving ")
    (then_more c.args.text.now _ _ (codes "rows asking ") (decimal c.args.asking) c.in_ok-append.ensures.ok c.in_ok-append_number.ensures)
    c.in_ok-append-2.ensures.ok) c.in_ok-append_number-2.ensures) is)
    c.append-3.ensures.ok
