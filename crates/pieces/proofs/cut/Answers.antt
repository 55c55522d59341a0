use Rattle.std.proofs.Common.{refl}
use Rattle.pieces.specs.Cuts.{cut_at}
use Rattle.pieces.proofs.CutLemmas.{cut_below}
use Rattle.pieces.proofs.cut.Goals as goal

pub returns-clause-is : goal.returns-clause-is
unfolding cut_at
returns-clause-is c = refl

pub returns-clause-below : goal.returns-clause-below
unfolding cut_at
returns-clause-below c = cut_below c.args.piece c.args.count c.args.pieces c.requires.within c.requires.some
