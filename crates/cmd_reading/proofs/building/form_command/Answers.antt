use Rattle.std.proofs.lemmas.Result.{IfOk-weaker}
use Rattle.cmd_reading.proofs.BuildLemmas.{in-turn}
use Rattle.cmd_reading.proofs.building.form_command.Goals as goal

pub returns : goal.returns
returns c =
    IfOk-weaker c.with_options-2.result _ _
    (λ r h. in-turn _ _ _ _ _ _ _ c.bare_command.ensures c.in_ok-command.ensures c.in_ok-command-2.ensures h) c.with_options-2.ensures
