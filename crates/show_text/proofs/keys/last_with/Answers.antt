use Rattle.std.proofs.Common.{◌∙◌, sym, arith}
use Rattle.std.specs.Prelude.{slice_index}
use Rattle.show_text.proofs.KeyLemmas.{last_ends, last_goes_on}
use Rattle.show_text.proofs.keys.last_with.Goals as goal

pub loop-i-preserved : goal.loop-i-preserved
loop-i-preserved c =
    last_goes_on (λ row. slice_index row c.args.column) c.args.value c.loop-i.i c.args.main.now c.loop-i.last _ (omega arith)
    (rw (sym c.has_at.ensures) c.later-last.ensures)
    ∙ c.loop-i.invariant

pub returns : goal.returns
returns c =
    last_ends (λ row. slice_index row c.args.column) c.args.value c.loop-i.i c.args.main.now c.loop-i.last (omega arith) ∙ c.loop-i.invariant
