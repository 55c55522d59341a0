use Rattle.std.proofs.Common.{sym, ◌∙◌}
use Rattle.air_stack.proofs.QuickLemmas.{ends_block, ends_call, ends_loop, sum_is}
use Rattle.air_stack.proofs.quick.is_end_clean.Goals as goal

pub returns-then-is_zero-2 : goal.returns-then-is_zero-2
returns-then-is_zero-2 g c = λ is.
    ends_block (g.V.View.cells c.args.x.now) (g.V.View.cells c.args.y.now) c.args.op c.requires.has c.requires.ends
    (c.is_deep_clean.ensures c.if-not-is_deep_clean.false) (sym c.h4.ensures.is ∙ c.is_zero.ensures.0 c.if-is_zero.true)
    (sum_is _ _ _ _ _ _ c.add-calls.ensures c.h6.ensures.is c.h7.ensures.is (c.is_zero-then-is_zero.ensures.0 c.if-is_zero-2.true))
    (c.ends_block.ensures is)

pub returns-then-is_one : goal.returns-then-is_one
returns-then-is_one g c = λ is.
    ends_call (g.V.View.cells c.args.x.now) (g.V.View.cells c.args.y.now) c.args.op c.requires.has c.requires.ends
    (c.is_deep_clean.ensures c.if-not-is_deep_clean.false) (sym c.h4.ensures.is ∙ c.is_zero.ensures.0 c.if-is_zero.true)
    (sum_is _ _ _ _ _ _ c.add-calls.ensures c.h6.ensures.is c.h7.ensures.is (c.is_one.ensures.0 c.if-is_one.true)) (c.ends_call.ensures is)

pub returns-then-is_zero-3 : goal.returns-then-is_zero-3
returns-then-is_zero-3 g c = λ is.
    ends_loop (g.V.View.cells c.args.x.now) (g.V.View.cells c.args.y.now) c.args.op c.requires.has c.requires.ends
    (c.is_deep_clean.ensures c.if-not-is_deep_clean.false) (sym c.h4-2.ensures.is ∙ c.is_one-2.ensures.0 c.if-is_one-2.true)
    (sum_is _ _ _ _ _ _ c.add-calls.ensures c.h6.ensures.is c.h7.ensures.is (c.is_zero-then-is_one-2.ensures.0 c.if-is_zero-3.true))
    (c.ends_loop.ensures is)
