use Rattle.std.proofs.Common.{◌≡◌, ◌++◌, take}
use Rattle.std.specs.List.{flat_map}
use Rattle.decimal_text.specs.Decimals.{element_text}
use Rattle.cmd_run.proofs.run_lines.append_outputs.Given as goal

-- the outputs so far stand behind the text
abbrev pub invariant-loop-cell : goal.invariant-loop-cell
invariant-loop-cell l = l.text ≡ l.initial.text ++ flat_map element_text (take l.cell l.state.stack)
