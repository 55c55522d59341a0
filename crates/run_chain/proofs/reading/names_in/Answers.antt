use Rattle.std.proofs.Common.{map, length, rules, eqb, refl, ap, ◌∙◌, arith}
use Rattle.std.proofs.lemmas.List.{length-map}
use Rattle.std.specs.List.{list_all}
use Rattle.vm_field.specs.FileName.{is_file_name}
use Rattle.std.proofs.lemmas.Iterator.Consumers.{YieldsList-at, YieldsList-end, YieldsList-turn}
use Rattle.std.proofs.lemmas.Iterator.Splits.{YieldsList-from_slice_split}
use Rattle.run_chain.proofs.ListLemmas.{names-bad, names-all, names-other, name-kept, name-refused, one-more-kept, one-more-named}
use Rattle.run_chain.proofs.reading.names_in.Goals as goal

pub loop-part-init : goal.loop-part-init
loop-part-init c = record { kept = search rules; names = refl }

pub returns-in_default : goal.returns-in_default
returns-in_default c =
    let turn = YieldsList-turn
    (YieldsList-at c.into_iter-part-iterator.ensures.into_iter_gives
    (YieldsList-from_slice_split _ (λ b. eqb b 32) c.args.text.now c.split-part-items.ensures.rest
    c.split-part-items.ensures.done c.split-part-items.ensures.closure (λ x b q k. search rules)))
    c.loop-part.yielded _ c.loop-part.yielded_by _ _ _ c.in-Some.is c.next.ensures.steps in
    names-bad c.args.count c.args.text.now c.in-Some.part.now (length c.loop-part.yielded) turn.0 turn.1
    (name-refused c.in-Some.part.now c.in_default.ensures.name)

pub loop-part-preserved : goal.loop-part-preserved
loop-part-preserved c =
    let name = name-kept c.in-Some.part.now c.in-Some-file_name.name.now c.in-Some-file_name.ensures.name in
    record {
      kept = rw c.in_ok-push.ensures.items
          (one-more-kept c.loop-part.names.items c.loop-part.yielded c.in-Some-file_name.name c.in-Some.part name.1 c.loop-part.invariant.kept);
      names = one-more-named c.loop-part.yielded c.in-Some.part name.0 c.loop-part.invariant.names;
    }

pub returns-then-len-count : goal.returns-then-len-count
returns-then-len-count c =
    let end = YieldsList-end
    (YieldsList-at c.into_iter-part-iterator.ensures.into_iter_gives
    (YieldsList-from_slice_split _ (λ b. eqb b 32) c.args.text.now c.split-part-items.ensures.rest
    c.split-part-items.ensures.done c.split-part-items.ensures.closure (λ x b q k. search rules)))
    c.loop-part.yielded _ c.loop-part.yielded_by _ _ c.in-None.is c.next.ensures.steps in
    let names = map (λ n. n.now) c.loop-part.names.items in
    names-all c.args.count c.args.text.now names (c.loop-part.invariant.kept ∙ end.0)
    (ap (list_all is_file_name) c.loop-part.invariant.kept ∙ c.loop-part.invariant.names)
    (omega (arith, length-map c.loop-part.names.items (λ n. n.now), c.len.ensures, c.loop-part.names.ok, c.if-len-count.true))

pub returns : goal.returns
returns c =
    let end = YieldsList-end
    (YieldsList-at c.into_iter-part-iterator.ensures.into_iter_gives
    (YieldsList-from_slice_split _ (λ b. eqb b 32) c.args.text.now c.split-part-items.ensures.rest
    c.split-part-items.ensures.done c.split-part-items.ensures.closure (λ x b q k. search rules)))
    c.loop-part.yielded _ c.loop-part.yielded_by _ _ c.in-None.is c.next.ensures.steps in
    let names = map (λ n. n.now) c.loop-part.names.items in
    names-other c.args.count c.args.text.now names (c.loop-part.invariant.kept ∙ end.0)
    (λ same. c.if-len-count.false (omega (arith, length-map c.loop-part.names.items (λ n. n.now), c.len.ensures, c.loop-part.names.ok, same)))
