-- A run that traps does so below its limit, and is cut off where the trap's clock is the limit.
use Rattle.std.proofs.Common.{◌≡◌, ℕ, ◌<◌, ◌≤◌, List, subst, sym, arith}
use Rattle.vm_field.specs.Machine.{State, start}
use Rattle.vm_ops.specs.declared.cause.Cause.{Cause}
use Rattle.block_tree.specs.CutLaws.{CutBeforeTrap, CutBySmaller, IsCutAt}
use Rattle.block_tree.specs.Execution.{IsCutOff, Trap, cut_off, execution}
use Rattle.block_tree.specs.Trees.{Tree}

-- a run starts at clock 0
pub starts_early : (stack tape : List ℕ) (limit : ℕ) → (start stack tape).core.clock ≤ limit
unfolding start
starts_early stack tape limit = omega arith

module _ (constants : List ℕ) (kernel : List (List ℕ)) (limit clock : ℕ) (cause : Cause) (tree : Tree) (s : State)
    (traps : execution constants kernel limit tree s ≡ Trap clock cause) where
  pub below_limit : CutBySmaller → s.core.clock ≤ limit → clock < limit
  below_limit law early =
      let at : IsCutAt limit (execution constants kernel limit tree s) (execution constants kernel limit tree s)
      = law constants kernel limit limit tree s early (omega arith) in
      (subst (λ o. IsCutAt limit o (execution constants kernel limit tree s)) traps at).1

  pub is_cut : CutBeforeTrap → IsCutOff (execution constants kernel clock tree s)
  is_cut law =
      let c = law constants kernel limit clock cause tree s traps in subst IsCutOff (sym c.1.cut) (cut_off c.1.state c.0)
