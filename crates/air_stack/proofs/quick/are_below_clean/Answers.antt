use Rattle.std.proofs.Common.{sym, ◌∙◌, subst}
use Rattle.air_stack.specs.Quick.{ComeUp, GoDown, StayLevel}
use Rattle.air_stack.proofs.QuickLemmas.{free_last, left_clean, level_clean, right_clean}
use Rattle.air_stack.proofs.quick.are_below_clean.Goals as goal

pub returns-then-is_zero : goal.returns-then-is_zero
returns-then-is_zero g c = λ is.
    left_clean (g.V.View.cells c.args.x.now) (g.V.View.cells c.args.y.now) c.args.op (sym c.shift.ensures ∙ c.in-Left.is)
    (free_last _ _ _ _ _ _ c.mul.ensures c.sub.ensures c.requires c.s15.ensures.is (c.is_zero.ensures.0 c.if-is_zero.true))
    (subst (λ n. ComeUp n (g.V.View.cells c.args.x.now) (g.V.View.cells c.args.y.now)) c.leaves-left.ensures.is (c.come_up.ensures is))

pub returns-in-Stay : goal.returns-in-Stay
returns-in-Stay g c = λ is.
    level_clean (g.V.View.cells c.args.x.now) (g.V.View.cells c.args.y.now) c.args.op (sym c.shift.ensures ∙ c.in-Stay.is)
    (subst (λ n. StayLevel n (g.V.View.cells c.args.x.now) (g.V.View.cells c.args.y.now)) c.leaves-left.ensures.is (c.stay_level.ensures is))

pub returns-in-Right : goal.returns-in-Right
returns-in-Right g c = λ is.
    right_clean (g.V.View.cells c.args.x.now) (g.V.View.cells c.args.y.now) c.args.op (sym c.shift.ensures ∙ c.in-Right.is)
    (subst (λ n. GoDown n (g.V.View.cells c.args.x.now) (g.V.View.cells c.args.y.now)) c.leaves-left.ensures.is (c.go_down.ensures is))
