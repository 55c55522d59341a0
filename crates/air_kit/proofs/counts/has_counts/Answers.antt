use Rattle.std.proofs.Common.{◌∙◌, sym, subst, refl, arith}
use Rattle.std.proofs.lemmas.Bool.{false≢true}
use Rattle.air_kit.specs.Traces.{IsCount}
use Rattle.air_kit.proofs.CountLaws.{all_counted, counted_next, is_count, may_have_if}
use Rattle.air_kit.proofs.counts.has_counts.Goals as goal

pub loop-table-init : goal.loop-table-init
loop-table-init c = λ k h. absurd (omega (arith, h))

pub returns-then-not-may_have : goal.returns-then-not-may_have
returns-then-not-may_have c =
    (λ h. absurd (false≢true h), λ has. sym c.if-not-may_have.true ∙ c.may_have.ensures ∙ may_have_if _ _ (subst (IsCount _) (sym c.rows.ensures) (has _)))

pub loop-table-preserved : goal.loop-table-preserved
loop-table-preserved c =
    counted_next c.args.trace.now c.loop-table.table-index c.loop-table.invariant
    (subst (IsCount _) c.rows.ensures (is_count _ c.rows.result (sym c.may_have.ensures ∙ c.if-not-may_have.false)))

pub returns : goal.returns
returns c = (λ _. all_counted c.args.trace.now (λ k h. c.loop-table.invariant k (omega (arith, h, c.loop-table-test.false))), λ _. refl)
