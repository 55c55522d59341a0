-- By the row's operation.
use Rattle.std.proofs.Common.{refl, inl, inr, lit≤}
use Rattle.vm_ops.specs.declared.kind.Kind.TheVariants as kinds
use Rattle.bus_blocks.proofs.BlockLemmas.{child_ends, child_given_by, children_given_by, no_child}
use Rattle.bus_blocks.proofs.TwoLemmas.{wider}
use Rattle.bus_kit.specs.Widths.{tallied}
use Rattle.bus_blocks.proofs.children.tuples_children.Goals as goal

pub returns-in-Join : goal.returns-in-Join
returns-in-Join g c =
    let x = g.V.View.cells c.args.x.now in
    let y = g.V.View.cells c.args.y.now in
    children_given_by _ _ _ _ x y c.args.op c.kind_of.result kinds.Join _
    c.requires.op c.kind_of.ensures c.in-Join.is refl refl c.give_both.ensures

pub returns-in-Split : goal.returns-in-Split
returns-in-Split g c =
    let x = g.V.View.cells c.args.x.now in
    let y = g.V.View.cells c.args.y.now in
    wider 1 2 _ _ _ _ _ (lit≤ tt)
    (child_given_by _ _ _ _ x y c.args.op c.kind_of.result kinds.Split _ _
    c.requires.op c.kind_of.ensures c.in-Split.is refl c.chosen.ensures refl c.give.ensures)

pub returns-in-Loop : goal.returns-in-Loop
returns-in-Loop g c =
    let x = g.V.View.cells c.args.x.now in
    let y = g.V.View.cells c.args.y.now in
    wider 1 2 _ _ _ _ _ (lit≤ tt)
    (children_given_by _ _ _ _ x y c.args.op c.kind_of.result kinds.Loop _
    c.requires.op c.kind_of.ensures c.in-Loop.is refl refl c.give_entered.ensures)

pub returns-in-Call : goal.returns-in-Call
returns-in-Call g c =
    let x = g.V.View.cells c.args.x.now in
    let y = g.V.View.cells c.args.y.now in
    wider 1 2 _ _ _ _ _ (lit≤ tt)
    (elim c.in-Call.is [
      | inl is ↦ child_given_by _ _ _ _ x y c.args.op c.kind_of.result kinds.Call _ _
          c.requires.op c.kind_of.ensures is refl c.first.ensures refl c.give-in-Call.ensures
      | inr is ↦ child_given_by _ _ _ _ x y c.args.op c.kind_of.result kinds.Syscall _ _
          c.requires.op c.kind_of.ensures is refl c.first.ensures refl c.give-in-Call.ensures
    ])

pub returns-in-Dyn : goal.returns-in-Dyn
returns-in-Dyn g c =
    let x = g.V.View.cells c.args.x.now in
    let y = g.V.View.cells c.args.y.now in
    wider 1 2 _ _ _ _ _ (lit≤ tt)
    (child_given_by _ _ _ _ x y c.args.op c.kind_of.result kinds.Dyn _ _
    c.requires.op c.kind_of.ensures c.in-Dyn.is refl c.called.ensures refl c.give-in-Dyn.ensures)

pub returns-in-Repeat : goal.returns-in-Repeat
returns-in-Repeat g c =
    let x = g.V.View.cells c.args.x.now in
    let y = g.V.View.cells c.args.y.now in
    wider 1 2 _ _ _ _ _ (lit≤ tt)
    (child_given_by _ _ _ _ x y c.args.op c.kind_of.result kinds.Repeat _ _
    c.requires.op c.kind_of.ensures c.in-Repeat.is refl c.first-in-Repeat.ensures refl c.give-in-Repeat.ensures)

pub returns-in-End : goal.returns-in-End
returns-in-End g c =
    let x = g.V.View.cells c.args.x.now in
    let y = g.V.View.cells c.args.y.now in
    wider 1 2 _ _ _ _ _ (lit≤ tt)
    (child_ends _ _ _ _ x y c.args.op c.kind_of.result _ _
    c.requires.op c.kind_of.ensures c.in-End.is c.first-in-End.ensures c.more_behind.ensures c.ask.ensures)

pub returns-in-Ordinary : goal.returns-in-Ordinary
returns-in-Ordinary g c =
    let x = g.V.View.cells c.args.x.now in
    let y = g.V.View.cells c.args.y.now in
    elim c.in-Ordinary.is [
      | inl is ↦ no_child 2 (tallied c.args.tally.now) x y c.args.op c.requires.op c.kind_of.result kinds.Ordinary c.kind_of.ensures is refl refl
      | inr (inl is) ↦ no_child 2 (tallied c.args.tally.now) x y c.args.op c.requires.op c.kind_of.result kinds.Span c.kind_of.ensures is refl refl
      | inr (inr (inl is)) ↦ no_child 2 (tallied c.args.tally.now) x y c.args.op c.requires.op c.kind_of.result kinds.Respan c.kind_of.ensures is refl refl
      | inr (inr (inr is)) ↦ no_child 2 (tallied c.args.tally.now) x y c.args.op c.requires.op c.kind_of.result kinds.Halt c.kind_of.ensures is refl refl
    ]
