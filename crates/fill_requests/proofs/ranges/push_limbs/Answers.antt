use Rattle.std.proofs.Common.{ℕ, List, [], ◌∷◌, ◌++◌, refl, sym, ap, ◌∙◌, arith}
use Rattle.fill_requests.proofs.LoopLemmas.{ended, step}
use Rattle.fill_requests.proofs.ranges.push_limbs.Goals as goal

pub loop-i-init : goal.loop-i-init
loop-i-init c = refl

pub loop-i-preserved : goal.loop-i-preserved
loop-i-preserved c =
    step (λ (xs : List ℕ). xs) (λ (x : ℕ) (later : List ℕ). x ∷ []) (λ x later. refl) c.args.limbs.now c.loop-i.i
    c.index-limbs-i.result c.loop-i.ranges _
    (omega arith) c.index-limbs-i.is (c.in_ok-push.ensures.ok ∙ ap (λ (n : ℕ). c.loop-i.ranges ++ n ∷ []) c.u16_of.ensures)
    ∙ c.loop-i.invariant

pub returns : goal.returns
returns c = sym (ended (λ (xs : List ℕ). xs) refl c.args.limbs.now c.loop-i.i c.loop-i.ranges (omega arith)) ∙ c.loop-i.invariant
