use Rattle.cmd_kit.proofs.MakeLaw.{make_is_not_refused}
use Rattle.cmd_kit.proofs.laws.make_is_not_refused.Goals as goal

pub returns : goal.returns
returns c = make_is_not_refused
