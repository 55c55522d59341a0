use Rattle.rpo_hash.specs.Constants.{constants_of}
use Rattle.perm_memo.proofs.StateLemmas.{AreRoundsTo}
use Rattle.perm_memo.proofs.permutations.computed.Given as goal

abbrev pub invariant-loop-k : goal.invariant-loop-k
invariant-loop-k l = AreRoundsTo (constants_of l.params) l.state l.states l.k
