use Rattle.std.proofs.Common.{◌≡◌, ◌++◌, take}
use Rattle.std.specs.List.{flat_map}
use Rattle.show_text.specs.EvidenceLines.{item_text}
use Rattle.show_text.proofs.evidence.append_items.Given as goal

-- the operations so far stand behind the text
abbrev pub invariant-loop-item : goal.invariant-loop-item
invariant-loop-item l = l.text ≡ l.initial.text ++ flat_map item_text (take l.item-index l.items)
