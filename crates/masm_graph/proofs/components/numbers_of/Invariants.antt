use Rattle.std.proofs.Common.{◌≡◌, length}
use Rattle.masm_graph.proofs.components.numbers_of.Given as goal

abbrev pub invariant-loop-number : goal.invariant-loop-number
invariant-loop-number l = length l.numbering.numbers.items ≡ length l.graph

abbrev pub invariant-loop : goal.invariant-loop
invariant-loop l = length l.numbering.numbers.items ≡ length l.graph
