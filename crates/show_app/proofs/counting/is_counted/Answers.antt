use Rattle.std.proofs.Common.{true, false, sym, ◌∙◌, arith, rules}
use Rattle.show_app.proofs.CountedLemmas.{counted_at, none_counted}
use Rattle.show_app.proofs.counting.is_counted.Goals as goal

pub loop-count-preserved : goal.loop-count-preserved
loop-count-preserved c =
    counted_at c.args.table c.args.row c.loop-count.count-index c.args.counts.now _ false (omega arith) (search rules)
    (sym c.if-is_row.false ∙ c.is_row.ensures)
    ∙ c.loop-count.invariant

pub returns-then-is_row : goal.returns-then-is_row
returns-then-is_row c =
    counted_at c.args.table c.args.row c.loop-count.count-index c.args.counts.now _ true (omega arith) (search rules)
    (sym c.if-is_row.true ∙ c.is_row.ensures)
    ∙ c.loop-count.invariant

pub returns : goal.returns
returns c = none_counted c.args.table c.args.row c.loop-count.count-index c.args.counts.now (omega arith) ∙ c.loop-count.invariant
