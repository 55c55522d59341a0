use Rattle.pieces.proofs.CutLemmas.{cut_starts, cut_ends, cut_grows}
use Rattle.pieces.proofs.cut_laws.Goals as goal

pub returns-clause-starts : goal.returns-clause-starts
returns-clause-starts c = cut_starts

pub returns-clause-ends : goal.returns-clause-ends
returns-clause-ends c = cut_ends

pub returns-clause-grows : goal.returns-clause-grows
returns-clause-grows c = cut_grows
