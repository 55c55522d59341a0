use Rattle.std.proofs.Common.{◌≡◌, map, take, Some}
use Rattle.clap.specs.Words.{first_value, found_of}
use Rattle.cmd_reading.proofs.reading.all_given.Given as goal

abbrev pub invariant-loop-id : goal.invariant-loop-id
invariant-loop-id l = record {
  same : map (λ t. Some t.now) l.texts.items ≡ map (λ id. first_value (found_of l.matches) id.now) (take l.id-index l.ids);
}
