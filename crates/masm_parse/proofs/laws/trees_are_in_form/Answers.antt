use Rattle.masm_parse.proofs.Forming.{trees_are_in_form}
use Rattle.masm_parse.proofs.laws.trees_are_in_form.Goals as goal

pub returns : goal.returns
returns c = trees_are_in_form
