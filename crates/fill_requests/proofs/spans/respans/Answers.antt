use Rattle.std.proofs.Common.{ℕ, List, ◌++◌, drop, sym, ap, ◌∙◌, arith}
use Rattle.vm_ops.specs.Codes.{kind_of}
use Rattle.complete_rows.specs.Turns.{respans}
use Rattle.fill_requests.specs.Spans.{batch_by}
use Rattle.fill_requests.proofs.SpanLemmas.{respans-ended, respans-step, respans-stop, same_op}
use Rattle.fill_requests.proofs.spans.respans.Goals as goal

pub loop-i-init : goal.loop-i-init
loop-i-init c = ap (λ done. done ++ respans (drop c.args.first c.args.events.now)) c.new-batches.ensures.empty

pub loop-i-preserved : goal.loop-i-preserved
loop-i-preserved c =
    let events = c.args.events.now in
    let shown = c.hash.ensures in
    let e = shown.0 in
    respans-step events c.loop-i.i e c.kind_of-kind.result c.stays.result c.loop-i.batches _ (omega arith)
    shown.1 (c.kind_of-kind.ensures ∙ ap kind_of (same_op events c.loop-i.i c.op.result e (omega arith) c.op.ensures shown.1))
    c.stays.ensures c.if-not-stays.false
    (c.in_ok-push_batch.ensures ∙ ap (λ (hash : List ℕ). c.loop-i.batches ++ batch_by c.kind_of-kind.result hash) shown.2)
    ∙ c.loop-i.invariant

pub returns-then-not-stays : goal.returns-then-not-stays
returns-then-not-stays c =
    let shown = c.op.ensures in
    sym (respans-stop c.args.events.now c.loop-i.i shown.0 c.kind_of-kind.result c.stays.result c.loop-i.batches (omega arith)
    shown.1 (c.kind_of-kind.ensures ∙ ap kind_of shown.2) c.stays.ensures c.if-not-stays.true)
    ∙ c.loop-i.invariant

pub returns : goal.returns
returns c = sym (respans-ended c.args.events.now c.loop-i.i c.loop-i.batches (omega arith)) ∙ c.loop-i.invariant
