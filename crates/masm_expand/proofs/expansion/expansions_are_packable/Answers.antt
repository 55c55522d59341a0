use Rattle.masm_expand.proofs.Packing.{expansions_are_packable}
use Rattle.masm_expand.proofs.expansion.expansions_are_packable.Goals as goal

pub returns : goal.returns
returns c = expansions_are_packable
