use Rattle.std.proofs.Common.{◌≡◌, ◌++◌, drop, option_map}
use Rattle.serde_json.specs.View.{items_view}
use Rattle.statement.specs.Values.{elements_of}
use Rattle.statement.proofs.values.elements_of.Given as goal

abbrev pub invariant-loop-item : goal.invariant-loop-item
invariant-loop-item l =
    option_map (λ xs. l.elements ++ xs) (elements_of (items_view (drop l.item-index l.items))) ≡ elements_of (items_view l.items)
