use Rattle.std.proofs.Common.{◌≡◌, drop}
use Rattle.std.specs.Prelude.{slice_index}
use Rattle.show_text.specs.KeyRows.{first_with}
use Rattle.show_text.proofs.keys.first_with.Given as goal

-- no row so far has it
abbrev pub invariant-loop-i : goal.invariant-loop-i
invariant-loop-i l =
    first_with (λ row. slice_index row l.column) l.value l.i (drop l.i l.main)
    ≡ first_with (λ row. slice_index row l.column) l.value l.from (drop l.from l.main)
