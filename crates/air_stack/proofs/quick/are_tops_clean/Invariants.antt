use Rattle.std.proofs.Common.{◌≡◌, ℕ, ◌<◌}
use Rattle.air_kit.specs.StackValues.{top_term}
use Rattle.air_stack.proofs.quick.are_tops_clean.Given as goal

abbrev pub invariant-loop-j : goal.invariant-loop-j
invariant-loop-j g l = (k : ℕ) → k < l.j → top_term k (g.V.View.cells l.x) (g.V.View.cells l.y) l.op ≡ 0
