use Rattle.std.proofs.Common.{◌≡◌, ◌++◌, drop, true}
use Rattle.masm_places.specs.Pending.{levels_in}
use Rattle.show_cycles.specs.CycleLines.{levels_text}
use Rattle.show_cycles.proofs.places.append_levels.Given as goal

-- what was told, with what is left, is the whole
abbrev pub invariant-loop-number : goal.invariant-loop-number
invariant-loop-number l =
    l.text ++ levels_text l.placed (drop l.number (levels_in l.levels))
    ≡ l.fn.text ++ levels_text true (drop l.fn.first (levels_in l.levels))
