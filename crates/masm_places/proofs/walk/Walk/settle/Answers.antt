use Rattle.std.proofs.Common.{◌≡◌, ◌-◌, ◌+◌, suc, ◌<◌, Some, None, sym, ◌∙◌, arith}
use Rattle.masm_places.specs.Indexed.{texts_in}
use Rattle.masm_places.specs.Pending.{walk_of}
use Rattle.masm_places.specs.Silent.{silent, most_silent_steps}
use Rattle.masm_places.proofs.Settling.{begins, goes_on, stops, gives_up}
use Rattle.masm_places.proofs.walk.Walk.settle.Goals as goal

pub loop-step-init : goal.loop-step-init
loop-step-init c = begins (texts_in c.args.sources.now) (walk_of c.args.self.now)

pub loop-step-preserved : goal.loop-step-preserved
loop-step-preserved c =
    let moved : Some (walk_of c.pass.new.self) ≡ silent (texts_in c.args.sources.now) (walk_of c.loop-step.self) =
    rw c.if-not-branch.false at c.in_ok-pass.ensures.moved in
    let one : most_silent_steps - c.loop-step._step ≡ suc (most_silent_steps - (c.loop-step._step + 1)) = omega arith in
    sym (goes_on (texts_in c.args.sources.now) _ _ (walk_of c.loop-step.self) (walk_of c.pass.new.self) one moved)
    ∙ c.loop-step.invariant

pub returns-then-not-branch : goal.returns-then-not-branch
returns-then-not-branch c =
    let moved : None ≡ silent (texts_in c.args.sources.now) (walk_of c.loop-step.self) =
    rw c.if-not-branch.true at c.in_ok-pass.ensures.moved in
    let some : 0 < most_silent_steps - c.loop-step._step = omega arith in
    c.in_ok-pass.ensures.same c.if-not-branch.true
    ∙ sym (stops (texts_in c.args.sources.now) _ (walk_of c.loop-step.self) some moved) ∙ c.loop-step.invariant

pub returns : goal.returns
returns c =
    let none : most_silent_steps - c.loop-step._step ≡ 0 = omega arith in
    c.lose.ensures ∙ sym (gives_up (texts_in c.args.sources.now) _ (walk_of c.loop-step.self) none) ∙ c.loop-step.invariant
