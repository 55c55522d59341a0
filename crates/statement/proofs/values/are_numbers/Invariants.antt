use Rattle.std.proofs.Common.{◌≡◌, drop}
use Rattle.serde_json.specs.View.{items_view}
use Rattle.statement.specs.Values.{are_numbers}
use Rattle.statement.proofs.values.are_numbers.Given as goal

abbrev pub invariant-loop-item : goal.invariant-loop-item
invariant-loop-item l = are_numbers (items_view (drop l.item-index l.items)) ≡ are_numbers (items_view l.items)
