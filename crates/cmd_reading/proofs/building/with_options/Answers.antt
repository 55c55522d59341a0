use Rattle.std.proofs.Common.{◌∙◌, ap₂}
use Rattle.clap.specs.Words.{with_rule}
use Rattle.cmd_reading.specs.FormApp.{option_rule}
use Rattle.cmd_reading.proofs.BuildLemmas.{added-rule}
use Rattle.cmd_reading.proofs.building.with_options.Goals as goal

pub loop-id-preserved : goal.loop-id-preserved
loop-id-preserved c = record {
  built = c.in_ok-command.ensures.shape c.text_option.ensures.own_level ∙ ap₂ with_rule c.loop-id.invariant.built c.text_option.ensures.rule
      ∙ added-rule (option_rule c.args.required) _ c.args.ids.now c.loop-id.id-index _ c.loop-id-test.true;
}
