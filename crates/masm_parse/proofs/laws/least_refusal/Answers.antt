use Rattle.masm_parse.proofs.Least.{least_refusal, parses_once}
use Rattle.masm_parse.proofs.laws.least_refusal.Goals as goal

pub returns : goal.returns
returns c = record { answers = least_refusal; once = parses_once }
