use Rattle.std.proofs.Common.{option_map, sym, ap, ◌∙◌}
use Rattle.rpo_hash.proofs.TextLines.{one_element-at}
use Rattle.number_files.proofs.Lines.{shorter}
use Rattle.number_files.proofs.numbers.read_line.Goals as goal

pub returns-in_err-line-clause-is : goal.returns-in_err-line-clause-is
returns-in_err-line-clause-is c = rw c.from_residual.ensures (sym (one_element-at _ _ c.in_err-line.ensures.is))

pub returns-in_err-element-clause-is : goal.returns-in_err-element-clause-is
returns-in_err-element-clause-is c =
    rw c.from_residual-in_err-element.ensures
    (sym (one_element-at _ _ c.in_ok-line.ensures.is ∙ ap (option_map (λ x. (x, c.in_ok-line.behind.now))) (sym c.in_err-element.ensures.value)))

pub returns-clause-is : goal.returns-clause-is
returns-clause-is c =
    sym (one_element-at _ _ c.in_ok-line.ensures.is ∙ ap (option_map (λ x. (x, c.in_ok-line.behind.now))) (sym c.in_ok-element.ensures.value))

pub returns-clause-shorter : goal.returns-clause-shorter
returns-clause-shorter c = shorter _ _ _ c.in_ok-line.ensures.is
