use Rattle.std.proofs.Common.{get_or, [], ap, ◌∙◌, subst, sym, arith}
use Rattle.vm_field.specs.Permutation.{added, mixed, round_constants, seventh_powers}
use Rattle.vm_field.proofs.PermutationLemmas.{length-round_constants}
use Rattle.rpo_hash.specs.Constants.{constants_of}
use Rattle.rpo_hash.specs.States.{IsState}
use Rattle.rpo_hash.proofs.OneToOne.{before_roots-IsState}
use Rattle.rpo_hash.proofs.Rounds.{before_roots-parts, constants-at}
use Rattle.rpo_hash.proofs.permutation.before_roots.Goals as goal

pub returns-clause-is : goal.returns-clause-is
returns-clause-is c =
    let firsts = c.args.params.now.first in
    let seconds = c.args.params.now.second in
    let k = c.args.k in
    let twelve = c.known_constants.ensures.twelve k c.requires in
    c.half-2.ensures
    ∙ ap (λ x. added (mixed x) (get_or seconds k [])) (c.seventh_powers-powers.ensures ∙ ap seventh_powers c.half.ensures)
    ∙ sym (before_roots-parts _ (get_or firsts k []) (get_or seconds k []) c.args.state.now
    (constants-at firsts seconds k (omega arith) (omega arith) (λ j h. c.known_constants.ensures.twelve j (omega arith))) twelve.0 twelve.1)

pub returns-clause-state : goal.returns-clause-state
returns-clause-state c =
    let constants = constants_of c.args.params.now in
    subst IsState (sym (returns-clause-is c))
    (before_roots-IsState (round_constants constants c.args.k) c.args.state.now
    (length-round_constants constants c.args.k c.known_constants.ensures.count c.requires))
