use Rattle.std.proofs.Common.{◌≡◌, ◌++◌, take}
use Rattle.std.specs.List.{flat_map}
use Rattle.decimal_text.specs.Decimals.{element_text}
use Rattle.decimal_text.proofs.decimals.append_elements.Given as goal

-- the elements so far stand behind the text
abbrev pub invariant-loop-element : goal.invariant-loop-element
invariant-loop-element l = l.text ≡ l.initial.text ++ flat_map element_text (take l.element-index l.elements)
