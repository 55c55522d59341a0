-- By the row's operation.
use Rattle.std.proofs.Common.{refl, inl, inr, lit≤}
use Rattle.vm_ops.specs.declared.op.Op.TheVariants as ops
use Rattle.bus_blocks.proofs.GroupLemmas.{batch_given, group_taken, immediate_taken, no_group, not_batch, not_push}
use Rattle.bus_blocks.proofs.TwoLemmas.{wider}
use Rattle.bus_kit.specs.Widths.{tallied}
use Rattle.bus_blocks.proofs.groups.tuples_groups.Goals as goal

pub returns-in-Span : goal.returns-in-Span
returns-in-Span g c =
    let x = g.V.View.cells c.args.x.now in
    let y = g.V.View.cells c.args.y.now in
    elim c.in-Span.is [
      | inl is ↦ batch_given _ _ _ _ x y c.args.op ops.Span c.requires.op is refl refl refl c.give_positions.ensures
      | inr is ↦ batch_given _ _ _ _ x y c.args.op ops.Respan c.requires.op is refl refl refl c.give_positions.ensures
    ]

pub returns-in-Push : goal.returns-in-Push
returns-in-Push g c =
    let x = g.V.View.cells c.args.x.now in
    let y = g.V.View.cells c.args.y.now in
    wider 1 8 _ _ _ _ _ (lit≤ tt)
    (immediate_taken _ _ _ _ x y c.args.op _ _ c.requires.op c.in-Push.is c.taken.ensures c.s0.ensures.is c.ask.ensures)

pub returns-then-opens_group : goal.returns-then-opens_group
returns-then-opens_group g c =
    let x = g.V.View.cells c.args.x.now in
    let y = g.V.View.cells c.args.y.now in
    wider 1 8 _ _ _ _ _ (lit≤ tt)
    (group_taken _ _ _ _ x y c.args.op _ _ c.requires.op (not_push c.args.op c.in_default.not-Push)
    (not_batch c.args.op c.in_default.not-Span c.in_default.not-Respan)
    c.if-opens_group.ensures c.taken-then-opens_group.ensures c.h0.ensures.is c.ask-then-opens_group.ensures)

pub returns-else-opens_group : goal.returns-else-opens_group
returns-else-opens_group g c =
    let x = g.V.View.cells c.args.x.now in
    let y = g.V.View.cells c.args.y.now in
    no_group 8 (tallied c.args.tally.now) x y c.args.op c.requires.op (not_push c.args.op c.in_default.not-Push)
    (not_batch c.args.op c.in_default.not-Span c.in_default.not-Respan) c.if-opens_group.ensures
