-- The entries of the stack in their three parts: depth and key, cells, operands.
use Rattle.std.proofs.Common.{◌≡◌, ℕ, List, ◌++◌, Option, sym, ap, ◌∙◌}
use Rattle.air_kit.specs.Places.{Spot, first_fault_of, or_next, family}
use Rattle.air_kit.specs.StackValues.{depth_values, cell_values, operand_values, stack_values}
use Rattle.air_kit.proofs.FaultLemmas.{first_append}
use Rattle.air_stack.specs.Parts.{spot_between}

-- the first fault of the three parts
pub parts_join : (p : Spot)
    → or_next (first_fault_of 115 (depth_values (spot_between p.cur p.next)))
    (or_next (first_fault_of 119 (cell_values (spot_between p.cur p.next))) (first_fault_of 135 (operand_values (spot_between p.cur p.next))))
    ≡ first_fault_of 115 (stack_values p)
unfolding stack_values depth_values cell_values operand_values family
parts_join p =
    sym (first_append 115 (depth_values p) (cell_values p ++ operand_values p)
    ∙ ap (or_next (first_fault_of 115 (depth_values p))) (first_append 119 (cell_values p) (operand_values p)))

-- the answer from those of the parts
pub answer_joins : (p : Spot) (x : List ℕ) (depth cells operands rest all : Option (ℕ × ℕ)) → x ≡ p.cur
    → depth ≡ first_fault_of 115 (depth_values (spot_between x p.next)) → cells ≡ first_fault_of 119 (cell_values (spot_between x p.next))
    → operands ≡ first_fault_of 135 (operand_values (spot_between x p.next)) → rest ≡ or_next cells operands → all ≡ or_next depth rest
    → all ≡ first_fault_of 115 (stack_values p)
answer_joins p x depth cells operands rest all same d c o r a =
    a ∙ rw (r, d, c, o, same) (parts_join p)
