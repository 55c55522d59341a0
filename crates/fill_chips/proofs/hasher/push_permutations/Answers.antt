use Rattle.fill_chips.proofs.Words.{◌≡◌, ◌+◌, ◌≤◌, [], ◌∷◌, ◌++◌, ◌∙◌, All, append_assoc, length, take, sym, subst, ap, arith, take_all, append-nil}
use Rattle.fill_chips.proofs.Words.{take_more, All-append, All-cons, All-nil, IsState, round_states, rows_of_perms}
use Rattle.facts_hasher.specs.PermRows.{rows_before}
use Rattle.fill_chips.proofs.PermLemmas.{rows-push}
use Rattle.fill_chips.proofs.RoundLemmas.{state_of_index}
use Rattle.fill_chips.proofs.hasher.push_permutations.Goals as goal

pub loop-i-init : goal.loop-i-init
unfolding rows_of_perms
loop-i-init c = record {
  rows = λ constants is. sym (append-nil c.args.table.now);
  states = All-nil (λ p. IsState p.start);
}

pub loop-i-preserved : goal.loop-i-preserved
loop-i-preserved c =
    let perms = c.args.perms.now in
    let i = c.loop-i.i in
    let perm = c.index-perms-i.result in
    let more : take (i + 1) perms ≡ take i perms ++ perm ∷ []
    = take_more perms i perm c.loop-i-test.true ∙ ap (λ p. take i perms ++ p ∷ []) (sym c.index-perms-i.is) in
    record {
      rows = λ constants is.
          let state : c.index-states-i.result ≡ round_states constants perm.start
          = state_of_index constants perms c.args.states.now i c.index-states-i.result perm c.loop-i-test.true is c.index-states-i.is c.index-perms-i.is in
          c.in_ok-push_permutation.ensures.rows constants state
          ∙ ap (λ table. table ++ rows_before constants perm []) (c.loop-i.invariant.rows constants is)
          ∙ append_assoc c.args.table.now (rows_of_perms constants (take i perms)) (rows_before constants perm [])
          ∙ ap (λ rows. c.args.table.now ++ rows) (sym (rows-push constants (take i perms) perm) ∙ ap (rows_of_perms constants) (sym more));
      states =
          subst (All (λ p. IsState p.start)) (sym more)
          (All-append (λ p. IsState p.start) (take i perms) (perm ∷ []) c.loop-i.invariant.states
          (All-cons (λ p. IsState p.start) perm [] c.push_permutation.ensures.state (All-nil (λ p. IsState p.start))));
    }

pub returns-clause-states : goal.returns-clause-states
returns-clause-states c =
    let perms = c.args.perms.now in
    let all : length perms ≤ c.loop-i.i = omega arith in
    subst (All (λ p. IsState p.start)) (take_all c.loop-i.i perms all) c.loop-i.invariant.states
