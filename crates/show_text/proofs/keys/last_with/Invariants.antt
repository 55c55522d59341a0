use Rattle.std.proofs.Common.{◌≡◌, drop}
use Rattle.std.specs.Prelude.{slice_index}
use Rattle.show_text.specs.KeyRows.{last_with, or_before}
use Rattle.show_text.proofs.keys.last_with.Given as goal

-- the last one is one of the rows that are left, or else the last one so far
abbrev pub invariant-loop-i : goal.invariant-loop-i
invariant-loop-i l =
    or_before (last_with (λ row. slice_index row l.column) l.value l.i (drop l.i l.main)) l.last
    ≡ last_with (λ row. slice_index row l.column) l.value 0 l.main
