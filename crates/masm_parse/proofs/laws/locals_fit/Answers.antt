use Rattle.masm_parse.proofs.Fitting.{locals-fit}
use Rattle.masm_parse.proofs.laws.locals_fit.Goals as goal

pub returns : goal.returns
returns c = locals-fit
