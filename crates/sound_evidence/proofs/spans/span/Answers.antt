use Rattle.sound_evidence.proofs.Words.{arith, refl}
use Rattle.vm_ops.specs.declared.op.Op.TheVariants as ops
use Rattle.sound_evidence.proofs.BlockFound.{wraps}
use Rattle.sound_evidence.proofs.ReadRows.{bits_at}
use Rattle.sound_evidence.proofs.SpanFound.{first_batch, next_row, read_within, row_taken, row_within, span_found, span_small}
use Rattle.sound_evidence.proofs.Takings.{joined, none_between}
use Rattle.sound_evidence.proofs.spans.span.Goals as goal

pub loop-op-init : goal.loop-op-init
loop-op-init c = (
  first_batch _ _ c.requires.readable _ c.requires.is _ _ c.in-Ok.ensures.one c.batch.ensures,
  none_between _ _ _,
)

pub marked-op-requires-clause-within : goal.marked-op-requires-clause-within
marked-op-requires-clause-within c = read_within _ _ c.requires.readable _ _ _ c.loop-op.invariant.0

pub marked-op-requires-clause-bits : goal.marked-op-requires-clause-bits
marked-op-requires-clause-bits c = bits_at _ _ c.requires.readable _ (read_within _ _ c.requires.readable _ _ _ c.loop-op.invariant.0)

pub address-requires-clause-few : goal.address-requires-clause-few
address-requires-clause-few c =
    span_small _ _ c.requires.readable _ _ _ _ _ c.loop-op.invariant.0 c.marked-op.ensures c.is_end.ensures c.if-is_end.true

pub returns-then-is_end-clause-ok : goal.returns-then-is_end-clause-ok
returns-then-is_end-clause-ok c =
    span_found _ _ c.requires.readable _ _ _ _ _ _ c.requires.is c.loop-op.invariant.0 c.marked-op.ensures c.is_end.ensures c.if-is_end.true
    c.address.ensures

pub returns-then-is_end-clause-tape : goal.returns-then-is_end-clause-tape
returns-then-is_end-clause-tape c =
    wraps _ _ c.requires.readable _ ops.Span c.requires.is refl _ (returns-then-is_end-clause-ok c) _ _ c.loop-op.invariant.1

pub goes_on-requires : goal.goes_on-requires
goes_on-requires c = row_within _ _ c.requires.readable _ _ _ c.loop-op.invariant.0

pub overflow_add-a-in-loop-op : goal.overflow_add-a-in-loop-op
overflow_add-a-in-loop-op c =
    let within = row_within _ _ c.requires.readable _ _ _ c.loop-op.invariant.0 in
    let few = c.requires.readable.rows in
    omega (arith, within, few)

pub loop-op-smaller : goal.loop-op-smaller
loop-op-smaller c =
    let within = row_within _ _ c.requires.readable _ _ _ c.loop-op.invariant.0 in
    omega (arith, within)

pub loop-op-preserved : goal.loop-op-preserved
loop-op-preserved c = (
  next_row _ _ c.requires.readable _ _ _ _ _ _ c.loop-op.invariant.0 c.marked-op.ensures c.is_end.ensures c.if-is_end.false
      c.in-Ok-goes_on.ensures.batches,
  joined _ _ _ _ _ _ _ c.loop-op.invariant.1
      (row_taken _ _ c.requires.readable _ _ _ _ _ _ c.loop-op.invariant.0 c.marked-op.ensures c.in-Ok-goes_on.ensures.tape),
)
