use Rattle.std.proofs.Common.{arith}
use Rattle.rpo_hash.specs.Constants.{constants_of}
use Rattle.perm_memo.proofs.StateLemmas.{AreRoundsTo-begun, AreRoundsTo-next, round_states-by_place}
use Rattle.perm_memo.proofs.permutations.computed.Goals as goal

pub loop-k-init : goal.loop-k-init
loop-k-init c = AreRoundsTo-begun (constants_of c.args.params.now) c.args.state.now

pub loop-k-preserved : goal.loop-k-preserved
loop-k-preserved c =
    AreRoundsTo-next (constants_of c.args.params.now) c.args.state.now c.loop-k.states c.loop-k.k _ (omega arith)
    c.loop-k.invariant c.round.ensures.is

pub returns : goal.returns
returns c =
    round_states-by_place (constants_of c.args.params.now) c.args.state.now c.loop-k.states c.loop-k.invariant.0
    (λ k h. c.loop-k.invariant.1 k (omega arith))
