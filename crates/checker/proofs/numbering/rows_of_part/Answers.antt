use Rattle.std.proofs.Common.{◌≡◌, ap, ◌∙◌, arith}
use Rattle.pieces.specs.Cuts.{cut_at}
use Rattle.checker.specs.Pieces.{ends_at, rows_before, starts_at}
use Rattle.checker.proofs.PieceLemmas.{below_is, table_grows}
use Rattle.checker.proofs.numbering.rows_of_part.Goals as goal

pub returns-clause-start : goal.returns-clause-start
returns-clause-start c =
    let from : c.rows-all.result.start ≡ starts_at c.args.trace.now c.args.part =
    c.rows-all.ensures.start ∙ ap (λ n. cut_at c.args.part.low n c.args.part.pieces) c.rows_before.ensures.is in
    grind (
      arith,
      below_is c.args.trace.now c.args.name c.rows-all.result.start (starts_at c.args.trace.now c.args.part) c.rows_before-before.result
          c.rows_in-rows.result from (c.rows_before-before.ensures.is ∙ ap (rows_before c.args.trace.now) c.number.ensures.is) c.rows_in-rows.ensures.is,
    )

pub returns-clause-end : goal.returns-clause-end
returns-clause-end c =
    let to : c.rows-all.result.end ≡ ends_at c.args.trace.now c.args.part =
    c.rows-all.ensures.end ∙ ap (λ n. cut_at c.args.part.high n c.args.part.pieces) c.rows_before.ensures.is in
    grind (
      arith,
      below_is c.args.trace.now c.args.name c.rows-all.result.end (ends_at c.args.trace.now c.args.part) c.rows_before-before.result
          c.rows_in-rows.result to (c.rows_before-before.ensures.is ∙ ap (rows_before c.args.trace.now) c.number.ensures.is) c.rows_in-rows.ensures.is,
    )

pub returns-clause-grows : goal.returns-clause-grows
returns-clause-grows c =
    let start = returns-clause-start c in
    let end = returns-clause-end c in
    let grows = table_grows c.args.trace.now c.args.name c.args.part in
    omega (arith, start, end, grows)
