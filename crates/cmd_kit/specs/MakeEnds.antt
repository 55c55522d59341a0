-- The end of `make` (docs/FORMATS.md).
use Rattle.std.specs.Prelude.{ℕ, List, ◌++◌, codes}
use Rattle.vm_field.specs.Machine.{State}
use Rattle.cmd_kit.specs.RunEnds.{run_lines}

-- the cycles and the outputs of the run, and that its trace is accepted
abbrev pub make_lines : State → List ℕ
make_lines last = run_lines last ++ codes "accepted\n"
