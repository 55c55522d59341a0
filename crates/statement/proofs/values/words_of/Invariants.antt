use Rattle.std.proofs.Common.{◌≡◌, ◌++◌, drop, option_map}
use Rattle.serde_json.specs.View.{items_view}
use Rattle.statement.specs.Values.{words_of}
use Rattle.statement.proofs.values.words_of.Given as goal

abbrev pub invariant-loop-item : goal.invariant-loop-item
invariant-loop-item l = option_map (λ ws. l.words ++ ws) (words_of (items_view (drop l.item-index l.items))) ≡ words_of (items_view l.items)
