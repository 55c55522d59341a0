use Rattle.std.proofs.Common.{◌≡◌, map, take}
use Rattle.clap.specs.Words.{app_of}
use Rattle.cmd_reading.specs.FormApp.{option_rule, with_rules}
use Rattle.cmd_reading.proofs.building.with_options.Given as goal

abbrev pub invariant-loop-id : goal.invariant-loop-id
invariant-loop-id l = record {
  built : app_of l.command ≡ with_rules (app_of l.initial.command) (map (option_rule l.required) (map (λ s. s.now) (take l.id-index l.ids)));
}
