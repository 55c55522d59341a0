use Rattle.std.proofs.Common.{◌≡◌, ◌++◌, replicate}
use Rattle.show_why.proofs.lines.append_spaces.Given as goal

abbrev pub invariant-loop-space : goal.invariant-loop-space
invariant-loop-space l = l.text ≡ l.initial.text ++ replicate l.space 32
