-- The counts under the claim of the trace, and their sums.
use Rattle.std.proofs.Common.{◌+◌, ap, ap₂, ◌∙◌}
use Rattle.std.specs.List.{sum_by}
use Rattle.air_kit.specs.Acceptance.{asked_on, given_on}
use Rattle.checker.specs.Settings.{claim_in}
use Rattle.checker.specs.declared.row_counts.RowCount.{RowCount}
use Rattle.checker.proofs.CountingLemmas.{all_readable}
use Rattle.checker.proofs.RowCountLemmas.{asked_in_all, given_in_all}
use Rattle.checker.proofs.row_counts.counts_by_row.Goals as goal

pub count_tables-requires-clause-readable : goal.count_tables-requires-clause-readable
count_tables-requires-clause-readable c = all_readable _ c.args.trace.now c.rows.ensures.shape c.requires.zero

pub returns-in-Some-clause-asked : goal.returns-in-Some-clause-asked
returns-in-Some-clause-asked c =
    ap (λ rows. sum_by (λ (r : RowCount). r.asked) rows) c.in-Some.ensures.rows
    ∙ asked_in_all (claim_in c.of-setting.result) c.args.trace.now c.args.bus c.args.tuple.now
    ∙ ap (λ k. asked_on k c.args.trace.now c.args.bus c.args.tuple.now) c.of-setting.ensures.claim

pub returns-in-Some-clause-given : goal.returns-in-Some-clause-given
returns-in-Some-clause-given c =
    ap₂ (λ n rows. n + sum_by (λ (r : RowCount). r.given) rows) c.in-Some.ensures.statement c.in-Some.ensures.rows
    ∙ given_in_all (claim_in c.of-setting.result) c.args.trace.now c.args.bus c.args.tuple.now
    ∙ ap (λ k. given_on k c.args.trace.now c.args.bus c.args.tuple.now) c.of-setting.ensures.claim
