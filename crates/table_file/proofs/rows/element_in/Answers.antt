use Rattle.table_file.proofs.Words.{Err, refl, sym, ap, ◌∙◌, little_number}
use Rattle.table_file.proofs.PartReading.{good, wrong}
use Rattle.table_file.proofs.rows.element_in.Goals as goal

pub returns-in-Ok : goal.returns-in-Ok
returns-in-Ok c = λ all stands.
    sym (good all c.args.part.now c.args.at c.args.j stands c.requires.inside c.in-Ok.element
    (c.in-Ok.ensures.value ∙ c.read_u64.ensures ∙ ap (little_number 8) c.part_from.ensures) c.in-Ok.ensures.below)

pub returns-in-Err : goal.returns-in-Err
returns-in-Err c = λ all stands.
    ap Err c.bad.ensures
    ∙ sym (wrong all c.args.part.now c.args.at c.args.j stands c.requires.inside c.read_u64.result
    (c.read_u64.ensures ∙ ap (little_number 8) c.part_from.ensures) (c.in-Err.ensures.refused.0 refl))
