use Rattle.std.proofs.Common.{sym, ap, ◌∙◌, arith, add-one}
use Rattle.vm_field.specs.Permutation.{round, round_constants, rounds}
use Rattle.vm_field.proofs.PermutationLemmas.{permuted-is, rounds-last, rounds-none}
use Rattle.rpo_hash.specs.Constants.{constants_of}
use Rattle.rpo_hash.proofs.permutation.permute.Goals as goal

pub loop-k-init : goal.loop-k-init
loop-k-init c = record {
  rounds = sym (rounds-none (constants_of c.args.params.now) c.args.state);
  state = λ h. absurd (omega arith);
}

pub loop-k-preserved : goal.loop-k-preserved
loop-k-preserved c =
    let constants = constants_of c.args.params.now in
    let k = c.loop-k.k in
    record {
      rounds =
          c.round-state.ensures.is ∙ ap (round (round_constants constants k)) c.loop-k.invariant.rounds
          ∙ sym (rounds-last k constants c.args.state) ∙ ap (λ n. rounds n constants c.args.state) (sym (add-one k));
      state = λ h. c.round-state.ensures.state;
    }

pub returns-clause-is : goal.returns-clause-is
returns-clause-is c =
    let constants = constants_of c.args.params.now in
    c.loop-k.invariant.rounds ∙ ap (λ n. rounds n constants c.args.state) (omega arith) ∙ sym (permuted-is constants c.args.state)

pub returns-clause-below : goal.returns-clause-below
returns-clause-below c = λ k h. (c.loop-k.invariant.state (omega arith)).below k 0 h
