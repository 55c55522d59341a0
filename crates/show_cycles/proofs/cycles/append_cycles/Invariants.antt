use Rattle.std.proofs.Common.{◌≡◌, ◌++◌, drop}
use Rattle.masm_places.specs.Indexed.{texts_in}
use Rattle.masm_places.specs.Pending.{walk_of}
use Rattle.show_cycles.specs.CycleLines.{lines_from, cycles_text}
use Rattle.show_cycles.proofs.cycles.append_cycles.Given as goal

-- what was told, with what is left, is the whole
abbrev pub invariant-loop-place : goal.invariant-loop-place
invariant-loop-place l =
    l.text ++ lines_from (texts_in l.sources) (walk_of l.walk) (drop l.place l.log) ≡ l.fn.text ++ cycles_text (texts_in l.sources) l.log
