use Rattle.std.proofs.Common.{sym, ◌∙◌}
use Rattle.air_decoder.proofs.QuickLemmas.{follows_by_three, follows_by_six}
use Rattle.air_decoder.proofs.quick.may_follow.Goals as goal

pub returns-then-is_zero : goal.returns-then-is_zero
returns-then-is_zero g c = λ is.
    follows_by_six (g.V.View.cells c.args.y.now) (sym c.sp.ensures.is ∙ c.is_one.ensures.0 c.if-is_one.true)
    (sym c.b6.ensures.is ∙ c.is_zero.ensures.0 c.if-is_zero.true)

pub returns-then-is_zero-2 : goal.returns-then-is_zero-2
returns-then-is_zero-2 g c = λ is.
    follows_by_three (g.V.View.cells c.args.y.now) (sym c.sp.ensures.is ∙ c.is_one.ensures.0 c.if-is_one.true)
    (sym c.b3.ensures.is ∙ c.is_zero-then-is_one.ensures.0 c.if-is_zero-2.true)
