use Rattle.sound_evidence.proofs.Words.{refl, ap, arith, placed_of}
use Rattle.vm_ops.specs.declared.op.Op.TheVariants as ops
use Rattle.tree_merge.specs.Placed as placed
use Rattle.sound_evidence.proofs.ReadRows.{bits_at}
use Rattle.sound_evidence.proofs.BlockFound.{call_found, call_small, child_later, dyn_found, dyn_small, end_within, join_found, join_small, second_starts, skipped_found, skipped_small, split_one_found, split_small, split_zero_found, starts_by, syscall_found, syscall_small, top_one, top_other, wraps}
use Rattle.sound_evidence.proofs.TurnsFound.{behind_within, bits_behind, first_turn, loop_found, loop_small, mergeable, next_turn, read_behind, turn_later, turn_takes}
use Rattle.sound_evidence.proofs.Takings.{joined, none_between}
use Rattle.sound_evidence.proofs.+blocks.Goals as goal

-- ---- turns

pub turns::turns-loop-body-init : goal.turns::turns-loop-body-init
turns::turns-loop-body-init t c = (
  first_turn _ _ c.requires.readable _ c.requires.is c.requires.entered _ c.first_digest.result refl c.first_digest.ensures,
  none_between _ _ _,
)

pub turns::turns-merge-requires : goal.turns::turns-merge-requires
turns::turns-merge-requires t c = mergeable _ _ c.requires.readable _ _ _ _ c.requires.is c.loop-body.invariant.0 c.in_ok-turn.ensures.ok

pub turns::turns-overflow_add-turn : goal.turns::turns-overflow_add-turn
turns::turns-overflow_add-turn t c =
    let within = read_behind _ _ c.requires.readable _ _ _ _ c.requires.is c.loop-body.invariant.0 c.in_ok-turn.ensures.ok in
    let few = c.requires.readable.rows in
    omega (arith, within, few)

pub turns::turns-operation-requires-clause-within :
    goal.turns::turns-operation-requires-clause-within
turns::turns-operation-requires-clause-within t c =
    read_behind _ _ c.requires.readable _ _ _ _ c.requires.is c.loop-body.invariant.0 c.in_ok-turn.ensures.ok

pub turns::turns-operation-requires-clause-bits : goal.turns::turns-operation-requires-clause-bits
turns::turns-operation-requires-clause-bits t c =
    bits_behind _ _ c.requires.readable _ _ _ _ c.requires.is c.loop-body.invariant.0 c.in_ok-turn.ensures.ok

pub turns::turns-overflow_add-result : goal.turns::turns-overflow_add-result
turns::turns-overflow_add-result t c =
    let within = read_behind _ _ c.requires.readable _ _ _ _ c.requires.is c.loop-body.invariant.0 c.in_ok-turn.ensures.ok in
    let few = c.requires.readable.rows in
    omega (arith, within, few)

pub turns::turns-address-requires-clause-few : goal.turns::turns-address-requires-clause-few
turns::turns-address-requires-clause-few t c =
    loop_small _ _ c.requires.readable _ _ _ _ c.requires.is c.loop-body.invariant.0 c.in_ok-turn.ensures.ok _ _ c.operation.ensures
    c.is_end.ensures c.if-is_end.true

pub turns::turns-returns-then-is_end-clause-ok : goal.turns::turns-returns-then-is_end-clause-ok
turns::turns-returns-then-is_end-clause-ok t c =
    loop_found _ _ c.requires.readable _ _ _ _ c.requires.is c.loop-body.invariant.0 c.in_ok-turn.ensures.ok _ _ c.operation.ensures
    c.is_end.ensures c.if-is_end.true c.requires.entered c.in_ok-body.body c.in_ok-body.ensures.ok _ c.address.result c.in_ok-one.one.value
    refl refl c.address.ensures c.in_ok-one.ensures.ok

pub turns::turns-returns-then-is_end-clause-tape : goal.turns::turns-returns-then-is_end-clause-tape
turns::turns-returns-then-is_end-clause-tape t c =
    wraps _ _ c.requires.readable _ ops.Loop c.requires.is refl _ (turns::turns-returns-then-is_end-clause-ok t c) _ _
    (joined _ _ _ _ _ _ _ c.loop-body.invariant.1 c.in_ok-turn.ensures.tape)

pub turns::turns-overflow_add-a-in-loop-body : goal.turns::turns-overflow_add-a-in-loop-body
turns::turns-overflow_add-a-in-loop-body t c =
    let within = behind_within _ _ c.requires.readable _ _ _ _ c.requires.is c.loop-body.invariant.0 c.in_ok-turn.ensures.ok in
    let few = c.requires.readable.rows in
    omega (arith, within, few)

pub turns::turns-loop-body-smaller : goal.turns::turns-loop-body-smaller
turns::turns-loop-body-smaller t c =
    let within = behind_within _ _ c.requires.readable _ _ _ _ c.requires.is c.loop-body.invariant.0 c.in_ok-turn.ensures.ok in
    let later = turn_later _ _ c.requires.readable _ _ _ _ c.requires.is c.loop-body.invariant.0 c.in_ok-turn.ensures.ok in
    omega (arith, within, later)

pub turns::turns-loop-body-preserved : goal.turns::turns-loop-body-preserved
turns::turns-loop-body-preserved t c = (
  next_turn _ _ c.requires.readable _ _ _ _ c.requires.is c.loop-body.invariant.0 c.in_ok-turn.ensures.ok _ _ c.operation.ensures
      c.is_end.ensures c.if-is_end.false _ c.in_ok-body.ensures.ok,
  turn_takes _ _ c.requires.readable _ _ _ _ c.requires.is c.loop-body.invariant.0 c.in_ok-turn.ensures.ok _ _ c.operation.ensures
      c.is_end.ensures c.if-is_end.false _ _ _ c.loop-body.invariant.1 c.in_ok-turn.ensures.tape,
)

-- ---- blocks

pub walk::block-operation-requires-clause-bits : goal.walk::block-operation-requires-clause-bits
walk::block-operation-requires-clause-bits t c =
    let within = c.requires.starts.within in bits_at _ _ c.requires.readable _ (omega (arith, within))

pub walk::call-block-requires : goal.walk::call-block-requires
walk::call-block-requires t c =
    let d = c.decreases in
    let within = c.requires.is.within in (
      omega (arith, d, within),
      (c.requires.readable, starts_by _ _ c.requires.readable _ _ c.requires.is (c.requires.readable.facts.nesting.call _ c.requires.is)),
    )

pub walk::call-overflow_add-result : goal.walk::call-overflow_add-result
walk::call-overflow_add-result t c =
    let within = end_within _ _ c.requires.readable _ _ c.in_ok-callee.ensures.ok in
    let few = c.requires.readable.rows in
    omega (arith, within, few)

pub walk::call-address-requires-clause-few : goal.walk::call-address-requires-clause-few
walk::call-address-requires-clause-few t c = call_small _ _ c.requires.readable _ c.requires.is _ c.in_ok-callee.ensures.ok

pub walk::call-returns-clause-ok : goal.walk::call-returns-clause-ok
walk::call-returns-clause-ok t c =
    call_found _ _ c.requires.readable _ c.requires.is _ c.in_ok-callee.ensures.ok _ c.address.result c.in_ok-child.child.value refl refl
    c.address.ensures c.in_ok-child.ensures.ok

pub walk::call-returns-clause-tape : goal.walk::call-returns-clause-tape
walk::call-returns-clause-tape t c =
    wraps _ _ c.requires.readable _ ops.Call c.requires.is refl _ (walk::call-returns-clause-ok t c) _ _
    c.in_ok-callee.ensures.tape

pub walk::syscall-block-requires : goal.walk::syscall-block-requires
walk::syscall-block-requires t c =
    let d = c.decreases in
    let within = c.requires.is.within in (
      omega (arith, d, within),
      (c.requires.readable, starts_by _ _ c.requires.readable _ _ c.requires.is (c.requires.readable.facts.nesting.syscall _ c.requires.is)),
    )

pub walk::syscall-overflow_add-result : goal.walk::syscall-overflow_add-result
walk::syscall-overflow_add-result t c =
    let within = end_within _ _ c.requires.readable _ _ c.in_ok-callee.ensures.ok in
    let few = c.requires.readable.rows in
    omega (arith, within, few)

pub walk::syscall-address-requires-clause-few : goal.walk::syscall-address-requires-clause-few
walk::syscall-address-requires-clause-few t c = syscall_small _ _ c.requires.readable _ c.requires.is _ c.in_ok-callee.ensures.ok

pub walk::syscall-returns-clause-ok : goal.walk::syscall-returns-clause-ok
walk::syscall-returns-clause-ok t c =
    syscall_found _ _ c.requires.readable _ c.requires.is _ c.in_ok-callee.ensures.ok _ c.address.result c.in_ok-child.child.value refl refl
    c.address.ensures c.in_ok-child.ensures.ok

pub walk::syscall-returns-clause-tape : goal.walk::syscall-returns-clause-tape
walk::syscall-returns-clause-tape t c =
    wraps _ _ c.requires.readable _ ops.Syscall c.requires.is refl _ (walk::syscall-returns-clause-ok t c) _ _
    c.in_ok-callee.ensures.tape

pub walk::dyn_block-block-requires : goal.walk::dyn_block-block-requires
walk::dyn_block-block-requires t c =
    let d = c.decreases in
    let within = c.requires.is.within in (
      omega (arith, d, within),
      (c.requires.readable, starts_by _ _ c.requires.readable _ _ c.requires.is (c.requires.readable.facts.nesting.dyn _ c.requires.is)),
    )

pub walk::dyn_block-overflow_add-result : goal.walk::dyn_block-overflow_add-result
walk::dyn_block-overflow_add-result t c =
    let within = end_within _ _ c.requires.readable _ _ c.in_ok-child.ensures.ok in
    let few = c.requires.readable.rows in
    omega (arith, within, few)

pub walk::dyn_block-address-requires-clause-few : goal.walk::dyn_block-address-requires-clause-few
walk::dyn_block-address-requires-clause-few t c = dyn_small _ _ c.requires.readable _ c.requires.is _ c.in_ok-child.ensures.ok

pub walk::dyn_block-returns-clause-ok : goal.walk::dyn_block-returns-clause-ok
walk::dyn_block-returns-clause-ok t c =
    dyn_found _ _ c.requires.readable _ c.requires.is _ c.in_ok-child.ensures.ok _ c.address.result c.called_digest.result _ refl
    c.dynamic.ensures.is c.in_ok-targets.ensures.ok c.address.ensures c.called_digest.ensures

pub walk::dyn_block-returns-clause-tape : goal.walk::dyn_block-returns-clause-tape
walk::dyn_block-returns-clause-tape t c =
    wraps _ _ c.requires.readable _ ops.Dyn c.requires.is refl _ (walk::dyn_block-returns-clause-ok t c) _ _
    c.in_ok-child.ensures.tape

pub walk::join-block-requires : goal.walk::join-block-requires
walk::join-block-requires t c =
    let d = c.decreases in
    let within = c.requires.is.within in (
      omega (arith, d, within),
      (c.requires.readable, starts_by _ _ c.requires.readable _ _ c.requires.is (c.requires.readable.facts.nesting.join _ c.requires.is)),
    )

pub walk::join-block-requires-2 : goal.walk::join-block-requires-2
walk::join-block-requires-2 t c =
    let d = c.decreases in
    let within = c.requires.is.within in
    let later = child_later _ _ c.requires.readable _ _ c.in_ok-first.ensures.ok in (
      omega (arith, d, within, later),
      (c.requires.readable, second_starts _ _ c.requires.readable _ c.requires.is _ c.in_ok-first.ensures.ok),
    )

pub walk::join-overflow_add-first : goal.walk::join-overflow_add-first
walk::join-overflow_add-first t c =
    let within = end_within _ _ c.requires.readable _ _ c.in_ok-first.ensures.ok in
    let few = c.requires.readable.rows in
    omega (arith, within, few)

pub walk::join-overflow_add-result : goal.walk::join-overflow_add-result
walk::join-overflow_add-result t c =
    let within = end_within _ _ c.requires.readable _ _ c.in_ok-second.ensures.ok in
    let few = c.requires.readable.rows in
    omega (arith, within, few)

pub walk::join-address-requires-clause-few : goal.walk::join-address-requires-clause-few
walk::join-address-requires-clause-few t c =
    join_small _ _ c.requires.readable _ c.requires.is _ _ c.in_ok-first.ensures.ok c.in_ok-second.ensures.ok

pub walk::join-returns-clause-ok : goal.walk::join-returns-clause-ok
walk::join-returns-clause-ok t c =
    join_found _ _ c.requires.readable _ c.requires.is _ _ c.in_ok-first.ensures.ok c.in_ok-second.ensures.ok _ c.address.result
    c.in_ok-one.one.value c.in_ok-other.other.value refl refl c.address.ensures c.in_ok-one.ensures.ok c.in_ok-other.ensures.ok

pub walk::join-returns-clause-tape : goal.walk::join-returns-clause-tape
walk::join-returns-clause-tape t c =
    wraps _ _ c.requires.readable _ ops.Join c.requires.is refl _ (walk::join-returns-clause-ok t c) _ _
    (joined _ _ _ _ _ _ _ c.in_ok-first.ensures.tape c.in_ok-second.ensures.tape)

pub walk::looped-address-requires-clause-few : goal.walk::looped-address-requires-clause-few
walk::looped-address-requires-clause-few t c =
    skipped_small _ _ c.requires.readable _ c.requires.is (top_other _ _ _ c.top.ensures c.eq.ensures c.if-eq.false)

pub walk::looped-returns-clause-ok : goal.walk::looped-returns-clause-ok
walk::looped-returns-clause-ok t c =
    skipped_found _ _ c.requires.readable _ c.requires.is (top_other _ _ _ c.top.ensures c.eq.ensures c.if-eq.false) _ c.address.result
    c.first_digest.result refl (ap (λ z. placed.Loop c.address.result (placed_of z)) c.in_ok-body.ensures.ok) c.address.ensures
    c.first_digest.ensures

pub walk::looped-returns-clause-tape : goal.walk::looped-returns-clause-tape
walk::looped-returns-clause-tape t c =
    wraps _ _ c.requires.readable _ ops.Loop c.requires.is refl _ (walk::looped-returns-clause-ok t c) _ _
    (none_between _ _ _)

pub walk::split-block-requires : goal.walk::split-block-requires
walk::split-block-requires t c =
    let d = c.decreases in
    let within = c.requires.is.within in (
      omega (arith, d, within),
      (c.requires.readable, starts_by _ _ c.requires.readable _ _ c.requires.is (c.requires.readable.facts.nesting.split _ c.requires.is)),
    )

pub walk::split-overflow_add-end : goal.walk::split-overflow_add-end
walk::split-overflow_add-end t c =
    let within = end_within _ _ c.requires.readable _ _ c.in_ok-branch.ensures.ok in
    let few = c.requires.readable.rows in
    omega (arith, within, few)

pub walk::split-address-at-requires-clause-few : goal.walk::split-address-at-requires-clause-few
walk::split-address-at-requires-clause-few t c = split_small _ _ c.requires.readable _ c.requires.is _ c.in_ok-branch.ensures.ok

pub walk::split-returns-then-eq-clause-ok : goal.walk::split-returns-then-eq-clause-ok
walk::split-returns-then-eq-clause-ok t c =
    split_one_found _ _ c.requires.readable _ c.requires.is (top_one _ _ _ c.top.ensures c.eq.ensures c.if-eq.true) _ c.in_ok-branch.ensures.ok _
    c.address-at.result c.in_ok-ran.ran.value c.second_digest.result refl
    (ap (λ z. placed.Split c.address-at.result (placed_of c.in_ok-ran.ran.value) (placed_of z)) c.in_ok-zero.ensures.ok)
    c.address-at.ensures c.in_ok-ran.ensures.ok c.second_digest.ensures

pub walk::split-returns-then-eq-clause-tape : goal.walk::split-returns-then-eq-clause-tape
walk::split-returns-then-eq-clause-tape t c =
    wraps _ _ c.requires.readable _ ops.Split c.requires.is refl _ (walk::split-returns-then-eq-clause-ok t c) _ _
    c.in_ok-branch.ensures.tape

pub walk::split-returns-clause-ok : goal.walk::split-returns-clause-ok
walk::split-returns-clause-ok t c =
    split_zero_found _ _ c.requires.readable _ c.requires.is (top_other _ _ _ c.top.ensures c.eq.ensures c.if-eq.false) _ c.in_ok-branch.ensures.ok _
    c.address-at.result c.in_ok-ran.ran.value c.first_digest.result refl
    (ap (λ z. placed.Split c.address-at.result (placed_of z) (placed_of c.in_ok-ran.ran.value)) c.in_ok-one.ensures.ok)
    c.address-at.ensures c.in_ok-ran.ensures.ok c.first_digest.ensures

pub walk::split-returns-clause-tape : goal.walk::split-returns-clause-tape
walk::split-returns-clause-tape t c =
    wraps _ _ c.requires.readable _ ops.Split c.requires.is refl _ (walk::split-returns-clause-ok t c) _ _
    c.in_ok-branch.ensures.tape
