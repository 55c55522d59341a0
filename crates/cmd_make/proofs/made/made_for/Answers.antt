use Rattle.std.proofs.Common.{refl}
use Rattle.cmd_make.proofs.MakeLemmas.{run_is_made}
use Rattle.cmd_make.proofs.made.made_for.Goals as goal

pub returns-clause-made : goal.returns-clause-made
returns-clause-made g c =
    let given = c.in-Ok.field-0 in
    run_is_made c.args.name.now given.source given.inputs c.args.turns c.in-Ok.ensures.source c.in-Ok.ensures.stack c.in-Ok.ensures.advice
    c.args.constants c.in_ok-course.course _ c.in_ok-course.ensures.came refl c.in-Ok-write_inputs.ensures.text c.in-Ok-checked_lines.ensures
