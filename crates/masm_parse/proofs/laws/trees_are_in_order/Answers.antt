use Rattle.masm_parse.proofs.Ordering.{trees_are_in_order, procedures_ascend}
use Rattle.masm_parse.proofs.laws.trees_are_in_order.Goals as goal

pub returns : goal.returns
returns c = record { trees = trees_are_in_order; procedures = procedures_ascend }
