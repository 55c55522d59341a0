use Rattle.std.proofs.Common.{◌≡◌, ◌<◌, All, map, take}
use Rattle.serde_json.specs.Data.{number, unsigned}
use Rattle.serde_json.specs.View.{view}
use Rattle.vm_field.specs.Field.{prime}
use Rattle.statement.proofs.values.array_of.Given as goal

abbrev pub invariant-loop-x : goal.invariant-loop-x
invariant-loop-x l = record {
  values : map view l.items.items ≡ map (λ x. number (unsigned x)) (take l.x-index l.elements);
  below : All (λ x. x < prime) (take l.x-index l.elements);
}
