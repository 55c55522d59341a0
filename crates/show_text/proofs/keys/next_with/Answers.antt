use Rattle.std.proofs.Common.{◌+◌, sym, ap, ◌∙◌, arith}
use Rattle.std.specs.Prelude.{slice_index}
use Rattle.show_text.specs.KeyRows.{next_with}
use Rattle.show_text.proofs.KeyLemmas.{first_none}
use Rattle.show_text.proofs.keys.next_with.Goals as goal

pub returns-in_default : goal.returns-in_default
returns-in_default c =
    first_none (λ row. slice_index row c.args.column) c.args.value (c.in-Some.n + 1) c.args.main.now (omega arith)
    ∙ sym (ap (next_with (λ row. slice_index row c.args.column) c.args.value c.args.main.now) c.in-Some.is)
