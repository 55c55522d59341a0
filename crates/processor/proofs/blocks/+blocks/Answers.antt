use Rattle.std.proofs.Common.{map, rules, ◌+◌, ◌-◌, ◌≡◌, ◌<◌, All, arith, ap, refl, subst, sym, ◌∙◌}
use Rattle.std.specs.Option.{option_map}
use Rattle.block_tree.specs.Trees.{Dyn, first_target, targets_height, tree_height}
use Rattle.tree_hash.proofs.NodeLemmas.{hashed-targets, node-Dyn}
use Rattle.block_tree.specs.Cycles.{Repeat, StartLoop, frame_of}
use Rattle.block_tree.specs.Execution.{Part}
use Rattle.vm_state.specs.Views.{core_of, state_of}
use Rattle.machine_cycles.specs.Marks.{frame_in}
use Rattle.tree_hash.specs.Nodes.{AreFirst, IsHashed, digest_in, node_tree, targets_of}
use Rattle.machine_cycles.specs.Settings.{constants_in}
use Rattle.processor.specs.Parts.{execution_in, run_option_in}
use Rattle.processor.proofs.RunLemmas.{ran-along, ran-fail, ran-skip, ran-then}
use Rattle.processor.proofs.BlockLemmas.{at_bit-zero, at_bit-one, dyn-as, found-low, is_some-map, join-as, split-as, loop-as, call-as, syscall-as, block-ticks, ran-ticks, turns-end, turns-fail, turns-more, turns-repeat_fail, turns-start}
use Rattle.processor.proofs.blocks.+blocks.Goals as goal

pub call-returns-in_err-frame-clause-ran : goal.call-returns-in_err-frame-clause-ran
call-returns-in_err-frame-clause-ran t c =
    ran-along (call-as c.args.setting.now (node_tree c.args.callee.now) c.digest.result c.args.digest.now
    (frame_of (core_of c.args.runner.now.state)) (state_of c.args.runner.now.state)
    (c.digest.ensures.hashed (constants_in c.args.setting.now) c.requires.callee) c.requires.digest refl)
    (ran-fail _ _ (search rules) c.in_err-frame.ensures.ran)

pub call-returns-in_err-block-clause-ran : goal.call-returns-in_err-block-clause-ran
call-returns-in_err-block-clause-ran t c =
    ran-along (call-as c.args.setting.now (node_tree c.args.callee.now) c.digest.result c.args.digest.now
    (frame_in c.in_ok-frame.frame) (state_of c.args.runner.now.state)
    (c.digest.ensures.hashed (constants_in c.args.setting.now) c.requires.callee) c.requires.digest c.in_ok-frame.ensures.frame)
    (ran-then _ _ c.in_ok-frame.ensures.ran (ran-fail _ _ (search rules) c.in_err-block.ensures.ran))

pub call-returns-clause-ran : goal.call-returns-clause-ran
call-returns-clause-ran t c =
    ran-along (call-as c.args.setting.now (node_tree c.args.callee.now) c.digest.result c.args.digest.now
    (frame_in c.in_ok-frame.frame) (state_of c.args.runner.now.state)
    (c.digest.ensures.hashed (constants_in c.args.setting.now) c.requires.callee) c.requires.digest c.in_ok-frame.ensures.frame)
    (ran-then _ _ c.in_ok-frame.ensures.ran (ran-then _ _ c.in_ok-block.ensures.ran c.cycle.ensures.ran))

pub syscall-returns-in_err-frame-clause-ran : goal.syscall-returns-in_err-frame-clause-ran
syscall-returns-in_err-frame-clause-ran t c =
    ran-along (syscall-as c.args.setting.now (node_tree c.args.callee.now) c.digest.result c.args.digest.now
    (frame_of (core_of c.args.runner.now.state)) (state_of c.args.runner.now.state)
    (c.digest.ensures.hashed (constants_in c.args.setting.now) c.requires.callee) c.requires.digest refl)
    (ran-fail _ _ (search rules) c.in_err-frame.ensures.ran)

pub syscall-returns-in_err-block-clause-ran : goal.syscall-returns-in_err-block-clause-ran
syscall-returns-in_err-block-clause-ran t c =
    ran-along (syscall-as c.args.setting.now (node_tree c.args.callee.now) c.digest.result c.args.digest.now
    (frame_in c.in_ok-frame.frame) (state_of c.args.runner.now.state)
    (c.digest.ensures.hashed (constants_in c.args.setting.now) c.requires.callee) c.requires.digest c.in_ok-frame.ensures.frame)
    (ran-then _ _ c.in_ok-frame.ensures.ran (ran-fail _ _ (search rules) c.in_err-block.ensures.ran))

pub syscall-returns-clause-ran : goal.syscall-returns-clause-ran
syscall-returns-clause-ran t c =
    ran-along (syscall-as c.args.setting.now (node_tree c.args.callee.now) c.digest.result c.args.digest.now
    (frame_in c.in_ok-frame.frame) (state_of c.args.runner.now.state)
    (c.digest.ensures.hashed (constants_in c.args.setting.now) c.requires.callee) c.requires.digest c.in_ok-frame.ensures.frame)
    (ran-then _ _ c.in_ok-frame.ensures.ran (ran-then _ _ c.in_ok-block.ensures.ran c.cycle.ensures.ran))

pub join-returns-in_err-cycle-clause-ran : goal.join-returns-in_err-cycle-clause-ran
join-returns-in_err-cycle-clause-ran t c =
    ran-along (join-as c.args.setting.now (node_tree c.args.first.now) (node_tree c.args.second.now) c.digest.result
    c.digest-2.result c.args.digest.now (state_of c.args.runner.now.state)
    (c.digest.ensures.hashed (constants_in c.args.setting.now) c.requires.first)
    (c.digest-2.ensures.hashed (constants_in c.args.setting.now) c.requires.second) c.requires.digest)
    (ran-fail _ _ (search rules) c.in_err-cycle.ensures.ran)

pub join-returns-in_err-block-clause-ran : goal.join-returns-in_err-block-clause-ran
join-returns-in_err-block-clause-ran t c =
    ran-along (join-as c.args.setting.now (node_tree c.args.first.now) (node_tree c.args.second.now) c.digest.result
    c.digest-2.result c.args.digest.now (state_of c.args.runner.now.state)
    (c.digest.ensures.hashed (constants_in c.args.setting.now) c.requires.first)
    (c.digest-2.ensures.hashed (constants_in c.args.setting.now) c.requires.second) c.requires.digest)
    (ran-then _ _ c.in_ok-cycle.ensures.ran (ran-fail _ _ (search rules) c.in_err-block.ensures.ran))

pub join-returns-in_err-block-2-clause-ran : goal.join-returns-in_err-block-2-clause-ran
join-returns-in_err-block-2-clause-ran t c =
    ran-along (join-as c.args.setting.now (node_tree c.args.first.now) (node_tree c.args.second.now) c.digest.result
    c.digest-2.result c.args.digest.now (state_of c.args.runner.now.state)
    (c.digest.ensures.hashed (constants_in c.args.setting.now) c.requires.first)
    (c.digest-2.ensures.hashed (constants_in c.args.setting.now) c.requires.second) c.requires.digest)
    (ran-then _ _ c.in_ok-cycle.ensures.ran (ran-then _ _ c.in_ok-block.ensures.ran (ran-fail _ _ (search rules) c.in_err-block-2.ensures.ran)))

pub join-returns-clause-ran : goal.join-returns-clause-ran
join-returns-clause-ran t c =
    ran-along (join-as c.args.setting.now (node_tree c.args.first.now) (node_tree c.args.second.now) c.digest.result
    c.digest-2.result c.args.digest.now (state_of c.args.runner.now.state)
    (c.digest.ensures.hashed (constants_in c.args.setting.now) c.requires.first)
    (c.digest-2.ensures.hashed (constants_in c.args.setting.now) c.requires.second) c.requires.digest)
    (ran-then _ _ c.in_ok-cycle.ensures.ran (ran-then _ _ c.in_ok-block.ensures.ran (ran-then _ _ c.in_ok-block-2.ensures.ran c.cycle-2.ensures.ran)))

pub split-returns-in_err-cycle-clause-ran : goal.split-returns-in_err-cycle-clause-ran
split-returns-in_err-cycle-clause-ran t c =
    ran-along (split-as c.args.setting.now (node_tree c.args.on_one.now) (node_tree c.args.on_zero.now) c.digest.result
    c.digest-2.result c.args.digest.now c.top_of-condition.result (state_of c.args.runner.now.state)
    (c.digest.ensures.hashed (constants_in c.args.setting.now) c.requires.on_one)
    (c.digest-2.ensures.hashed (constants_in c.args.setting.now) c.requires.on_zero) c.requires.digest
    c.top_of-condition.ensures)
    (ran-fail _ _ (search rules) c.in_err-cycle.ensures.ran)

pub split-returns-in_err-branch-clause-ran : goal.split-returns-in_err-branch-clause-ran
split-returns-in_err-branch-clause-ran t c =
    ran-along (split-as c.args.setting.now (node_tree c.args.on_one.now) (node_tree c.args.on_zero.now) c.digest.result
    c.digest-2.result c.args.digest.now c.top_of-condition.result (state_of c.args.runner.now.state)
    (c.digest.ensures.hashed (constants_in c.args.setting.now) c.requires.on_one)
    (c.digest-2.ensures.hashed (constants_in c.args.setting.now) c.requires.on_zero) c.requires.digest
    c.top_of-condition.ensures)
    (ran-then _ _ c.in_ok-cycle.ensures.ran (ran-fail _ _ (search rules) c.in_err-branch.ensures.ran))

pub split-returns-clause-ran : goal.split-returns-clause-ran
split-returns-clause-ran t c =
    ran-along (split-as c.args.setting.now (node_tree c.args.on_one.now) (node_tree c.args.on_zero.now) c.digest.result
    c.digest-2.result c.args.digest.now c.top_of-condition.result (state_of c.args.runner.now.state)
    (c.digest.ensures.hashed (constants_in c.args.setting.now) c.requires.on_one)
    (c.digest-2.ensures.hashed (constants_in c.args.setting.now) c.requires.on_zero) c.requires.digest
    c.top_of-condition.ensures)
    (ran-then _ _ c.in_ok-cycle.ensures.ran (ran-then _ _ c.in_ok-branch.ensures.ran c.cycle-2.ensures.ran))

pub repeated-returns-in_err-cycle-clause-ran : goal.repeated-returns-in_err-cycle-clause-ran
repeated-returns-in_err-cycle-clause-ran t c =
    ran-along (loop-as c.args.setting.now (node_tree c.args.body.now) c.digest.result c.args.digest.now c.top_of-condition.result
    (state_of c.args.runner.now.state)
    (c.digest.ensures.hashed (constants_in c.args.setting.now) c.requires.body) c.requires.digest c.top_of-condition.ensures)
    (ran-fail _ _ (search rules) c.in_err-cycle.ensures.ran)

pub repeated-returns-then-value-eq0-clause-ran : goal.repeated-returns-then-value-eq0-clause-ran
repeated-returns-then-value-eq0-clause-ran t c =
    ran-along (loop-as c.args.setting.now (node_tree c.args.body.now) c.digest.result c.args.digest.now c.value.result
    (state_of c.args.runner.now.state)
    (c.digest.ensures.hashed (constants_in c.args.setting.now) c.requires.body) c.requires.digest (c.value.ensures.is ∙ c.top_of-condition.ensures))
    (ran-then _ _ c.in_ok-cycle.ensures.ran
    (ran-along (ap (λ (f : Part). f (state_of c.cycle.new.runner.state)) (at_bit-zero c.value.result _ _ c.if-value-eq0.true))
    c.cycle-then-value-eq0.ensures.ran))

pub repeated-returns-else-value-eq0-clause-ran : goal.repeated-returns-else-value-eq0-clause-ran
repeated-returns-else-value-eq0-clause-ran t c =
    let ticked : c.cycle.new.runner.state.clock ≡ c.args.runner.now.state.clock + 1
    = (ran-ticks c.args.setting.now (StartLoop c.digest.result) (state_of c.args.runner.now.state) c.cycle.new.runner c.in_ok-cycle.ensures.ran).0 in
    ran-along (loop-as c.args.setting.now (node_tree c.args.body.now) c.digest.result c.args.digest.now c.value.result
    (state_of c.args.runner.now.state)
    (c.digest.ensures.hashed (constants_in c.args.setting.now) c.requires.body) c.requires.digest (c.value.ensures.is ∙ c.top_of-condition.ensures))
    (ran-then _ _ c.in_ok-cycle.ensures.ran
    (ran-along (ap (λ (f : Part). f (state_of c.cycle.new.runner.state)) (at_bit-one c.value.result _ _ c.if-value-eq0.false))
    (c.turns.ensures.ran (c.args.setting.now.limit - c.args.runner.now.state.clock) (omega (arith, ticked)))))

pub turns-returns-in_err-block-clause-ran : goal.turns-returns-in_err-block-clause-ran
turns-returns-in_err-block-clause-ran t c = λ n room.
    turns-fail c.args.setting.now c.args.digest.now (node_tree c.args.body.now) n (c.loop-runner.invariant.ran n room) (search rules)
    c.in_err-block.ensures.ran

pub turns-returns-then-value-eq0-clause-ran : goal.turns-returns-then-value-eq0-clause-ran
turns-returns-then-value-eq0-clause-ran t c = λ n room.
    turns-end c.args.setting.now c.args.digest.now (node_tree c.args.body.now) n c.value.result (c.loop-runner.invariant.ran n room) c.in_ok-block.ensures.ran
    (c.value.ensures.is ∙ c.top_of.ensures) c.if-value-eq0.true c.cycle.ensures.ran

pub turns-returns-in_err-cycle-clause-ran : goal.turns-returns-in_err-cycle-clause-ran
turns-returns-in_err-cycle-clause-ran t c = λ n room.
    turns-repeat_fail c.args.setting.now c.args.digest.now (node_tree c.args.body.now) n c.value.result c.digest.result
    (c.loop-runner.invariant.ran n room) c.in_ok-block.ensures.ran
    (c.value.ensures.is ∙ c.top_of.ensures) c.if-value-eq0.false (c.digest.ensures.hashed (constants_in c.args.setting.now) c.requires.body)
    (search rules) c.in_err-cycle.ensures.ran

pub turns-loop-runner-smaller : goal.turns-loop-runner-smaller
turns-loop-runner-smaller t c =
    let body : c.loop-runner.runner.state.clock < c.block.new.runner.state.clock
    = block-ticks c.args.setting.now (node_tree c.args.body.now) (state_of c.loop-runner.runner.state) c.block.new.runner c.in_ok-block.ensures.ran in
    let repeat : (c.cycle-in-loop-runner.new.runner.state.clock ≡ c.block.new.runner.state.clock + 1)
    × (c.block.new.runner.state.clock < c.args.setting.now.limit)
    = ran-ticks c.args.setting.now (Repeat c.digest.result) (state_of c.block.new.runner.state) c.cycle-in-loop-runner.new.runner
    c.in_ok-cycle.ensures.ran in
    omega (arith, body, repeat.0, repeat.1)

pub turns-loop-runner-preserved : goal.turns-loop-runner-preserved
turns-loop-runner-preserved t c = record {
  ran =
      λ n room.
      turns-more c.args.setting.now c.args.digest.now (node_tree c.args.body.now) n c.value.result c.digest.result
      (c.loop-runner.invariant.ran n room) c.in_ok-block.ensures.ran
      (c.value.ensures.is ∙ c.top_of.ensures) c.if-value-eq0.false (c.digest.ensures.hashed (constants_in c.args.setting.now) c.requires.body)
      c.in_ok-cycle.ensures.ran;
  same = c.in_ok-cycle.ensures.same ∙ (c.in_ok-block.ensures.same ∙ c.loop-runner.invariant.same);
}

pub turns-loop-runner-init : goal.turns-loop-runner-init
turns-loop-runner-init t c = record {
  ran =
      λ n room.
      turns-start c.args.setting.now c.args.digest.now (node_tree c.args.body.now) n c.args.runner.now room;
  same = refl;
}

-- a dynamic block's targets, and that they stand beside their digests
pub block-dynamic-requires : goal.block-dynamic-requires
block-dynamic-requires t c =
    let constants = constants_in c.args.setting.now in
    let seen = ap node_tree c.in-Dyn.is ∙ node-Dyn c.in-Dyn.digest c.in-Dyn.places c.in-Dyn.targets in
    let hashed = hashed-targets constants c.in-Dyn.digest c.in-Dyn.places c.in-Dyn.targets (subst (IsHashed constants) c.in-Dyn.is c.requires.hashed) in
    let height = ap tree_height seen ∙ ap (λ xs. 1 + targets_height (targets_of xs)) (sym c.deref-in-Dyn.ensures.value) in
    let d = c.decreases in (
      omega (arith, height, d),
      (
        c.requires.memo,
        (
          hashed.0,
          (
            subst (λ xs. AreFirst c.in-Dyn.places (map digest_in xs)) (sym c.deref-in-Dyn.ensures.value) hashed.1,
            subst (All (IsHashed constants)) (sym c.deref-in-Dyn.ensures.value) hashed.2,
          ),
        ),
      ),
    )

pub block-returns-in-Dyn-clause-ran : goal.block-returns-in-Dyn-clause-ran
block-returns-in-Dyn-clause-ran t c =
    ran-along (ap (λ tree. execution_in c.args.setting.now tree (state_of c.args.runner.now.state))
    (ap node_tree c.in-Dyn.is ∙ node-Dyn c.in-Dyn.digest c.in-Dyn.places c.in-Dyn.targets
    ∙ ap (λ xs. Dyn (targets_of xs)) (sym c.deref-in-Dyn.ensures.value))) c.dynamic.ensures.ran

pub chosen-returns-in-None-clause-ran : goal.chosen-returns-in-None-clause-ran
chosen-returns-in-None-clause-ran t c =
    ran-along (ap (λ o. run_option_in c.args.setting.now (option_map (λ node. node_tree node.now) o) (state_of c.args.runner.now.state)) c.in-None.is)
    (ran-skip c.args.setting.now c.args.runner.now tt)

pub dynamic-chosen-requires : goal.dynamic-chosen-requires
dynamic-chosen-requires t c =
    let constants = constants_in c.args.setting.now in
    let found = c.first-found.ensures.is constants c.requires.targets in
    let low = found-low constants c.called_word.result (targets_of c.args.targets.now) _ found in
    let d = c.decreases in (
      omega (arith, low, d),
      (c.in_ok-cycle.ensures.same ∙ c.requires.memo, c.first-found.ensures.hashed constants c.requires.targets),
    )

pub dynamic-returns-in_err-cycle-clause-ran : goal.dynamic-returns-in_err-cycle-clause-ran
dynamic-returns-in_err-cycle-clause-ran t c =
    ran-along (dyn-as c.args.setting.now (targets_of c.args.targets.now) (option_map (λ node. node_tree node.now) c.first-found.result)
    c.is_some.result c.args.digest.now (state_of c.args.runner.now.state)
    (c.first-found.ensures.is (constants_in c.args.setting.now) c.requires.targets
    ∙ ap (λ w. first_target (constants_in c.args.setting.now) w (targets_of c.args.targets.now)) c.called_word.ensures)
    (c.is_some.ensures ∙ sym (is_some-map _ c.first-found.result)) c.requires.digest)
    (ran-fail _ _ (search rules) c.in_err-cycle.ensures.ran)

pub dynamic-returns-in_err-chosen-clause-ran : goal.dynamic-returns-in_err-chosen-clause-ran
dynamic-returns-in_err-chosen-clause-ran t c =
    ran-along (dyn-as c.args.setting.now (targets_of c.args.targets.now) (option_map (λ node. node_tree node.now) c.first-found.result)
    c.is_some.result c.args.digest.now (state_of c.args.runner.now.state)
    (c.first-found.ensures.is (constants_in c.args.setting.now) c.requires.targets
    ∙ ap (λ w. first_target (constants_in c.args.setting.now) w (targets_of c.args.targets.now)) c.called_word.ensures)
    (c.is_some.ensures ∙ sym (is_some-map _ c.first-found.result)) c.requires.digest)
    (ran-then _ _ c.in_ok-cycle.ensures.ran (ran-fail _ _ (search rules) c.in_err-chosen.ensures.ran))

pub dynamic-returns-clause-ran : goal.dynamic-returns-clause-ran
dynamic-returns-clause-ran t c =
    ran-along (dyn-as c.args.setting.now (targets_of c.args.targets.now) (option_map (λ node. node_tree node.now) c.first-found.result)
    c.is_some.result c.args.digest.now (state_of c.args.runner.now.state)
    (c.first-found.ensures.is (constants_in c.args.setting.now) c.requires.targets
    ∙ ap (λ w. first_target (constants_in c.args.setting.now) w (targets_of c.args.targets.now)) c.called_word.ensures)
    (c.is_some.ensures ∙ sym (is_some-map _ c.first-found.result)) c.requires.digest)
    (ran-then _ _ c.in_ok-cycle.ensures.ran (ran-then _ _ c.in_ok-chosen.ensures.ran c.cycle-2.ensures.ran))
