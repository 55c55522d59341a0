use Rattle.std.proofs.Common.{◌≡◌, slice_index_or, [], length, ◌∙◌, sym, ap, subst}
use Rattle.vm_field.specs.Limits.{number_of_constants}
use Rattle.rpo_hash.specs.States.{IsState}
use Rattle.rpo_hash.proofs.OneToOne.{permuted-IsState}
use Rattle.perm_memo.specs.RoundStates.{round_states}
use Rattle.perm_memo.proofs.StateLemmas.{round_states-last}
use Rattle.perm_memo.proofs.permutations.Permutations.permuted.Goals as goal

pub returns-clause-is : goal.returns-clause-is
returns-clause-is c =
    let states : c.rounds.result ≡ round_states c.args.self.now c.args.state.now = cc in
    ap (λ s. slice_index_or s 7 []) states ∙ round_states-last c.args.self.now c.args.state.now

pub returns-clause-below : goal.returns-clause-below
returns-clause-below c =
    let count : length c.args.self.now ≡ number_of_constants = subst (λ constants. length constants ≡ number_of_constants) c.self.view_is c.known_constants.ensures.count in
    let state = subst IsState (sym (returns-clause-is c)) (permuted-IsState c.args.self.now c.args.state.now count) in
    λ k h. state.below k 0 h
