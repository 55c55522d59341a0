use Rattle.std.proofs.Common.{◌≡◌, map, take}
use Rattle.clap.specs.Words.{app_of}
use Rattle.cmd_reading.specs.FormApp.{place_rule, with_rules}
use Rattle.cmd_reading.proofs.building.with_places.Given as goal

abbrev pub invariant-loop-id : goal.invariant-loop-id
invariant-loop-id l = record {
  built : app_of l.command ≡ with_rules (app_of l.initial.command) (map place_rule (map (λ s. s.now) (take l.id-index l.ids)));
}
