use Rattle.cmd_run.proofs.RunLemmas.{last_saved}
use Rattle.cmd_make.proofs.saving.save_inputs.Goals as goal

pub returns-in-Ok : goal.returns-in-Ok
returns-in-Ok g c =
    last_saved c.args.name.now c.args.inputs c.args.lines _ _ _ (rw c.as_slice.ensures.items at c.in-Ok.ensures.written) c.answered.ensures
