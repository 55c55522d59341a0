use Rattle.std.proofs.Common.{sym, ◌∙◌, arith}
use Rattle.std.specs.Prelude.{slice_index}
use Rattle.show_text.proofs.KeyLemmas.{first_found, first_goes_on, first_none}
use Rattle.show_text.proofs.keys.first_with.Goals as goal

pub loop-i-preserved : goal.loop-i-preserved
loop-i-preserved c =
    first_goes_on (λ row. slice_index row c.args.column) c.args.value c.loop-i.i c.args.main.now (omega arith)
    (sym c.has_at.ensures ∙ c.if-has_at.false)
    ∙ c.loop-i.invariant

pub returns-then-has_at : goal.returns-then-has_at
returns-then-has_at c =
    first_found (λ row. slice_index row c.args.column) c.args.value c.loop-i.i c.args.main.now (omega arith)
    (sym c.has_at.ensures ∙ c.if-has_at.true)
    ∙ c.loop-i.invariant

pub returns : goal.returns
returns c =
    first_none (λ row. slice_index row c.args.column) c.args.value c.loop-i.i c.args.main.now (omega arith) ∙ c.loop-i.invariant
