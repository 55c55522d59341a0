use Rattle.std.proofs.Common.{Some, None, sym, ◌∙◌}
use Rattle.number_files.proofs.Lines.{shorter}
use Rattle.show_text.proofs.Told.{first-at, first-none}
use Rattle.show_text.proofs.evidence.first_told.Goals as goal

pub returns-in_default-clause-is : goal.returns-in_default-clause-is
returns-in_default-clause-is c = first-none _ c.in_default.ensures.is

pub returns-in-Some-2-clause-is : goal.returns-in-Some-2-clause-is
returns-in-Some-2-clause-is c = first-at _ _ _ (Some c.in-Some-2.told) c.in-Some.ensures.is (sym c.in-Some-2.is ∙ c.in_ok-told.ensures)

pub returns-in-Some-2-clause-shorter : goal.returns-in-Some-2-clause-shorter
returns-in-Some-2-clause-shorter c = shorter _ _ _ c.in-Some.ensures.is

pub returns-in-None-clause-is : goal.returns-in-None-clause-is
returns-in-None-clause-is c = first-at _ _ _ None c.in-Some.ensures.is (sym c.in-None.is ∙ c.in_ok-told.ensures)
