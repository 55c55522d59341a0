use Rattle.std.proofs.Common.{Err, sym, ap, ◌∙◌}
use Rattle.rpo_hash.proofs.TextLines.{line_ended, line_open, line_wrong, line_right}
use Rattle.rpo_hash.proofs.params.Lines.next.Goals as goal

pub returns-then-is_empty-clause-read : goal.returns-then-is_empty-clause-read
returns-then-is_empty-clause-read c =
    let lines = c.args.self.now in
    line_ended lines.line lines.rest.now (sym c.is_empty.ensures ∙ c.if-is_empty.true) ∙ ap Err (sym c.wrong.ensures)

pub returns-in_default-clause-read : goal.returns-in_default-clause-read
returns-in_default-clause-read c =
    let lines = c.args.self.now in
    line_open lines.line lines.rest.now (sym c.is_empty.ensures ∙ c.if-is_empty.false) c.in_default.ensures.is
    ∙ ap Err (sym c.wrong-in_default.ensures)

pub returns-in_default-read_decimal-clause-read : goal.returns-in_default-read_decimal-clause-read
returns-in_default-read_decimal-clause-read c =
    let lines = c.args.self.now in
    line_wrong lines.line lines.rest.now _ _ (sym c.is_empty.ensures ∙ c.if-is_empty.false) c.in-Some.ensures.is
    c.in_default-read_decimal.ensures.value
    ∙ ap Err (sym c.wrong-in_default-read_decimal.ensures)

pub returns-clause-read : goal.returns-clause-read
returns-clause-read c =
    let lines = c.args.self.now in
    line_right lines.line lines.rest.now _ _ c.in-Some-read_decimal.element (sym c.is_empty.ensures ∙ c.if-is_empty.false)
    c.in-Some.ensures.is c.in-Some-read_decimal.ensures.value
