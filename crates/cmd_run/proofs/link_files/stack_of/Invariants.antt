use Rattle.std.proofs.Common.{◌≡◌, take}
use Rattle.cmd_run.proofs.link_files.stack_of.Given as goal

-- the cells so far, from the top
abbrev pub invariant-loop-cell : goal.invariant-loop-cell
invariant-loop-cell l = l.cells ≡ take l.cell l.state.stack
