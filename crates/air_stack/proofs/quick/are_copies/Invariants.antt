use Rattle.std.proofs.Common.{◌≡◌, ℕ, ◌<◌, get_or}
use Rattle.vm_field.specs.Field.{felt_sub}
use Rattle.vm_table.specs.MainColumns.{s}
use Rattle.air_stack.proofs.quick.are_copies.Given as goal

abbrev pub invariant-loop-j : goal.invariant-loop-j
invariant-loop-j g l = (k : ℕ) → k < l.j → felt_sub (s (g.V.View.cells l.y) k) (s (g.V.View.cells l.x) (get_or l.sources k 0)) ≡ 0
