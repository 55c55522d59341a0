use Rattle.std.proofs.Common.{◌≡◌, ◌++◌, take}
use Rattle.std.specs.List.{flat_map}
use Rattle.show_text.specs.RunText.{run_line}
use Rattle.show_text.proofs.run.append_run.Given as goal

-- the rows so far stand behind the text
abbrev pub invariant-loop-i : goal.invariant-loop-i
invariant-loop-i l = l.text ≡ l.initial.text ++ flat_map run_line (take l.i l.main)
