use Rattle.std.proofs.Common.{◌≡◌, ℕ, ◌+◌, ◌-◌, ◌<◌, List, ◌∷◌, drop, length, sym, ap, ◌∙◌, arith}
use Rattle.std.proofs.lemmas.List.{drop_all}
use Rattle.fill_requests.proofs.LoopLemmas.{suffix}
use Rattle.fill_decoder.proofs.positions.stacked.Goals as goal

pub loop-i-init : goal.loop-i-init
loop-i-init c = c.new-stack.ensures ∙ sym (drop_all (length c.args.elements.now) c.args.elements.now (omega arith))

pub loop-i-preserved : goal.loop-i-preserved
loop-i-preserved c =
    let xs = c.args.elements.now in
    let i = c.loop-i.i in
    let j = i - 1 in
    let within : j < length xs = omega arith in
    let next : i ≡ j + 1 = omega arith in
    c.in_ok-push.ensures
    ∙ ap (λ (ys : List ℕ). c.index-elements-i.result ∷ ys) (c.loop-i.invariant ∙ ap (λ (n : ℕ). drop n xs) next)
    ∙ sym (suffix xs j c.index-elements-i.result within c.index-elements-i.is)

pub returns : goal.returns
returns c =
    let none : c.loop-i.i ≡ 0 = omega arith in
    c.loop-i.invariant ∙ ap (λ (n : ℕ). drop n c.args.elements.now) none
