use Rattle.std.proofs.Common.{◌≡◌, ◌++◌, take}
use Rattle.std.specs.List.{flat_map}
use Rattle.show_app.specs.RefusedRows.{also_line}
use Rattle.show_app.proofs.refused_rows.append_each.Given as goal

-- the rows so far stand behind the text
abbrev pub invariant-loop-fault : goal.invariant-loop-fault
invariant-loop-fault l = l.text ≡ l.initial.text ++ flat_map also_line (take l.fault-index l.others)
