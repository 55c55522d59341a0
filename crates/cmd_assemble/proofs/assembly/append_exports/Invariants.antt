use Rattle.std.proofs.Common.{◌≡◌, ◌++◌, take}
use Rattle.std.specs.List.{flat_map}
use Rattle.cmd_kit.specs.AssembleEnds.{export_line}
use Rattle.cmd_assemble.proofs.assembly.append_exports.Given as goal

-- the lines of the exports so far stand behind the text
abbrev pub invariant-loop-export : goal.invariant-loop-export
invariant-loop-export l = l.text ≡ l.initial.text ++ flat_map export_line (take l.export-index l.exports)
