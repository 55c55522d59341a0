use Rattle.std.proofs.Common.{◌∙◌, ap₂}
use Rattle.clap.specs.Words.{with_rule}
use Rattle.cmd_reading.specs.FormApp.{place_rule}
use Rattle.cmd_reading.proofs.BuildLemmas.{added-rule}
use Rattle.cmd_reading.proofs.building.with_places.Goals as goal

pub loop-id-preserved : goal.loop-id-preserved
loop-id-preserved c = record {
  built = c.in_ok-command.ensures.shape c.place.ensures.own_level ∙ ap₂ with_rule c.loop-id.invariant.built c.place.ensures.rule
      ∙ added-rule place_rule _ c.args.ids.now c.loop-id.id-index _ c.loop-id-test.true;
}
