use Rattle.std.proofs.Common.{List, ap, sym, ◌∙◌}
use Rattle.std.proofs.lemmas.List.Elements.{All-push}
use Rattle.op_pack.proofs.ReadLemmas.{after_items-before}
use Rattle.op_pack.specs.Digits.{after_items, left_of}
use Rattle.vm_ops.specs.declared.item.Item.{Item}
use Rattle.vm_ops.specs.Items.{IsOrdinaryItem}
use Rattle.op_pack.proofs.reading.unpack.Goals as goal

pub loop-item-preserved : goal.loop-item-preserved
loop-item-preserved c = record {
  is = c.loop-item.invariant.is ∙ ap (after_items c.loop-item.items) c.in-Goes.ensures.is.0
      ∙ after_items-before c.loop-item.items c.in-Goes.item (left_of c.in-Goes.later)
      ∙ ap (λ (xs : List Item). after_items xs (left_of c.in-Goes.later)) (sym c.in_ok-push-in-Goes.ensures.ok);
  ordinary = rw c.in_ok-push-in-Goes.ensures.ok
      (All-push IsOrdinaryItem c.loop-item.items c.in-Goes.item c.loop-item.invariant.ordinary c.in-Goes.ensures.ordinary);
}

pub returns-in-Ends-clause-ordinary : goal.returns-in-Ends-clause-ordinary
returns-in-Ends-clause-ordinary c =
    rw c.in_ok-push-in-Ends.ensures.ok
    (All-push IsOrdinaryItem c.loop-item.items c.in-Ends.item c.loop-item.invariant.ordinary c.in-Ends.ensures.ordinary)
