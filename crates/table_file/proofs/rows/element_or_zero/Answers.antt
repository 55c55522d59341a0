use Rattle.table_file.proofs.Words.{sym, ap, ◌∙◌, false≢true, little_number}
use Rattle.table_file.proofs.PartReading.{good}
use Rattle.table_file.proofs.rows.element_or_zero.Goals as goal

pub returns-in-Ok : goal.returns-in-Ok
returns-in-Ok c = λ is all at stands.
    sym (good all c.args.part.now at c.args.j stands c.requires.inside c.in-Ok.element
    (c.in-Ok.ensures.value ∙ c.read_u64.ensures ∙ ap (little_number 8) c.part_from.ensures) c.in-Ok.ensures.below)

pub returns-in-Err : goal.returns-in-Err
returns-in-Err c = λ is. absurd (false≢true is)
