use Rattle.cmd_kit.proofs.MadeLaw.{answered_make_stands}
use Rattle.cmd_kit.proofs.laws.answered_make_stands.Goals as goal

pub returns : goal.returns
returns c = answered_make_stands
