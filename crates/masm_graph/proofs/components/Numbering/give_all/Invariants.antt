use Rattle.std.proofs.Common.{◌≡◌, length}
use Rattle.masm_graph.proofs.components.Numbering.give_all.Given as goal

abbrev pub invariant-loop-place : goal.invariant-loop-place
invariant-loop-place l = length l.self.numbers.items ≡ length l.fn.self.numbers.items
