use Rattle.std.proofs.Common.{[], ◌∙◌, ap, ◌++◌, sym, append-nil}
use Rattle.op_pack.proofs.PackLemmas.{packed-push, packed-none, some_left, none_left}
use Rattle.op_pack.specs.Packing.{packed}
use Rattle.op_pack.proofs.packing.pack.Goals as goal

pub loop-rest-init : goal.loop-rest-init
loop-rest-init c =
    let next = packed-push [] c.args.items.now c.first_batch-first.result.1.now c.first_batch-first.result.0 c.requires
    c.first_batch-first.ensures.batch c.first_batch-first.ensures.rest in
    rw c.in_ok-batches.ensures.one next

pub loop-rest-preserved : goal.loop-rest-preserved
loop-rest-preserved c =
    let some = some_left c.loop-rest.rest.now c.is_empty.result c.is_empty.ensures c.loop-rest-test.true in
    let next = packed-push c.loop-rest.batches c.loop-rest.rest.now c.first_batch-batch.result.1.now c.first_batch-batch.result.0 some
    c.first_batch-batch.ensures.batch c.first_batch-batch.ensures.rest in
    rw c.in_ok-push.ensures.ok (c.loop-rest.invariant ∙ next)

pub returns : goal.returns
returns c =
    let none = none_left c.loop-rest.rest.now c.is_empty.result c.is_empty.ensures c.loop-rest-test.false in
    let whole = c.loop-rest.invariant ∙ ap (λ rest. c.loop-rest.batches ++ packed rest) none ∙ ap (λ later. c.loop-rest.batches ++ later) packed-none
    ∙ append-nil c.loop-rest.batches in
    record { is = sym whole }
