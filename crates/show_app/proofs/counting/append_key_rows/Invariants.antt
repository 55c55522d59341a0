use Rattle.std.proofs.Common.{◌≡◌, ◌++◌, take}
use Rattle.std.specs.List.{flat_map}
use Rattle.show_app.specs.CountedText.{key_line}
use Rattle.show_app.proofs.counting.append_key_rows.Given as goal

-- the rows so far stand behind the text
abbrev pub invariant-loop-row : goal.invariant-loop-row
invariant-loop-row l = l.text ≡ l.initial.text ++ flat_map (key_line l.trace l.table l.counts) (take l.row-index l.rows)
