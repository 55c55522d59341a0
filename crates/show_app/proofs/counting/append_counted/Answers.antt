use Rattle.std.proofs.Common.{◌++◌, ap, ◌∙◌}
use Rattle.std.proofs.lemmas.Result.{on_ok_weaker}
use Rattle.air_kit.specs.Traces.{claim_of}
use Rattle.checker.specs.RowCounts.{counts_on, statement_gives}
use Rattle.show_text.specs.CountText.{statement_line}
use Rattle.show_text.proofs.Lines.{then_more}
use Rattle.show_app.specs.CountedText.{rows_told}
use Rattle.show_app.proofs.counting.append_counted.Goals as goal

pub returns : goal.returns
returns c =
    let trace = c.args.trace.now in
    let claim = claim_of c.args.public.now trace in
    let bus = c.args.bus in
    let tuple = c.args.tuple.now in
    on_ok_weaker c.append_rows.result (λ is.
    then_more c.args.text.now _ _ (statement_line (statement_gives claim bus tuple)) (rows_told trace bus tuple (counts_on claim trace bus tuple))
    (c.in_ok-append_statement_count.ensures ∙ ap (λ n. c.args.text.now ++ statement_line n) c.in_ok-counts.ensures.statement)
    (is
    ∙ ap (λ rows. c.append_statement_count.new.text ++ rows_told trace bus tuple rows) (c.as_slice.ensures.value ∙ c.in_ok-counts.ensures.rows)))
    c.append_rows.ensures
