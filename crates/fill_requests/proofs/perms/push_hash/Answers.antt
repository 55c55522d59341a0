use Rattle.std.proofs.Common.{◌++◌, ◌∷◌, false, refl, ap, ◌∙◌, arith}
use Rattle.vm_field.specs.Permutation.{permuted}
use Rattle.complete_rows.specs.RunRequests.{chain}
use Rattle.fill_requests.proofs.ChainLemmas.{chain-end, chain-step}
use Rattle.fill_requests.proofs.perms.push_hash.Goals as goal

pub loop-i-init : goal.loop-i-init
loop-i-init c = record {
  perms = ap (λ state. c.args.perms.now ++ chain c.args.permutations.now state false (c.args.first.now ∷ c.args.later.now)) c.begun-state.ensures;
  same = refl;
}

pub loop-i-preserved : goal.loop-i-preserved
loop-i-preserved c = record {
  perms =
      chain-step c.args.permutations.now c.args.later.now c.loop-i.i c.loop-i.state c.loop-i.block c.absorbing-start.result _ c.index-later-i.result
      c.loop-i.going c.perm.result c.loop-i.perms _ (omega arith) c.index-later-i.is c.absorbing-start.ensures c.perm.ensures
      (c.permuted-state.ensures.is ∙ ap (λ xs. permuted xs c.absorbing-start.result) c.loop-i.invariant.same) c.in_ok-push.ensures.ok
      ∙ c.loop-i.invariant.perms;
  same = c.permuted-state.ensures.same ∙ c.loop-i.invariant.same;
}

pub returns : goal.returns
returns c = record {
  perms =
      chain-end c.args.permutations.now c.args.later.now c.loop-i.i c.loop-i.state c.loop-i.block c.absorbing.result c.loop-i.going c.perm-2.result
      c.loop-i.perms _ (omega arith) c.absorbing.ensures c.perm-2.ensures c.in_ok-push-2.ensures.ok
      ∙ c.loop-i.invariant.perms;
  same = c.loop-i.invariant.same;
}
