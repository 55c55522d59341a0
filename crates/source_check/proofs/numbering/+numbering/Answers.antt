use Rattle.std.proofs.Common.{All, ◌+◌, length, map, arith, ap, sym, subst, ◌∙◌}
use Rattle.std.proofs.lemmas.List.{length_push, length-map, length-append, map-append}
use Rattle.std.proofs.lemmas.List.Elements.{All-get_or}
use Rattle.rpo_hash.specs.Constants.{constants_of}
use Rattle.block_tree.specs.Trees.{AreWhole, IsWhole, tree_height, targets_height}
use Rattle.tree_hash.specs.Nodes.{AreFirst, IsHashed, digest_in, node_tree, targets_of}
use Rattle.tree_hash.proofs.NodeLemmas.{hashed-targets, node-Dyn}
use Rattle.tree_merge.specs.AddrView.{entries_of, entry_of, placed_of}
use Rattle.source_check.specs.Numbering.{blocks_in}
use Rattle.source_check.specs.SourceNodes.{inputs_in, inputs_of, shown_block}
use Rattle.source_check.proofs.BlockLemmas.{blocks-dyn, some-block}
use Rattle.source_check.proofs.TargetLemmas.{blocks-fit, blocks-more, entries-more}
use Rattle.source_check.proofs.TreeLemmas.{IsLower, IsWholeNode, each-lower, each-whole, dyn-blocks, dyn-numbered}
use Rattle.source_check.proofs.numbering.+numbering.Goals as goal

pub numbered_targets-numbered_tree-requires : goal.numbered_targets-numbered_tree-requires
numbered_targets-numbered_tree-requires t c =
    let constants = constants_of c.args.params.now in
    let nodes = c.args.nodes.now in
    let i = c.loop-place.place in
    let node = c.index-nodes-place.result in
    let within = c.loop-place-test.true in
    let lower = subst (IsLower (targets_height (targets_of nodes))) (sym c.index-nodes-place.is)
    (All-get_or (IsLower (targets_height (targets_of nodes))) nodes i node within (each-lower nodes)) in
    let fit = blocks-fit nodes i node within c.index-nodes-place.is constants c.loop-place.blocks.items _ c.loop-place.invariant.blocks in
    let all = length-append c.args.blocks.now.items (map shown_block (inputs_in constants (targets_of nodes)))
    ∙ ap (λ n. length c.args.blocks.now.items + n) (length-map (inputs_in constants (targets_of nodes)) shown_block) in
    let room = c.requires.room in
    let d = c.decreases in (
      omega (arith, lower, d),
      (
        subst (IsHashed constants) (sym c.index-nodes-place.is) (All-get_or (IsHashed constants) nodes i node within c.requires.hashed),
        (
          subst IsWholeNode (sym c.index-nodes-place.is) (All-get_or IsWholeNode nodes i node within (each-whole nodes c.requires.whole)),
          omega (arith, fit, all, room),
        ),
      ),
    )

pub numbered_targets-loop-place-preserved : goal.numbered_targets-loop-place-preserved
numbered_targets-loop-place-preserved t c =
    let constants = constants_of c.args.params.now in
    let nodes = c.args.nodes.now in
    let i = c.loop-place.place in
    let node = c.index-nodes-place.result in
    let within = c.loop-place-test.true in
    let is = c.index-nodes-place.is in
    let own = c.digest-digest.ensures.is in
    let hashed = subst (IsHashed constants) (sym is) (All-get_or (IsHashed constants) nodes i node within c.requires.hashed) in
    let mine = inputs_of constants (node_tree node) in
    let size = ap length c.in_ok-tree.ensures.blocks ∙ length-append c.loop-place.blocks.items (map shown_block mine)
    ∙ ap (λ n. length c.loop-place.blocks.items + n) (length-map mine shown_block) in
    let kept = c.in_ok-keep_first.ensures.kept in
    record {
      targets = entries-more nodes i node within is constants c.args.places.now c.requires.first (sym own ∙ c.digest-digest.ensures.hashed constants hashed)
          (c.args.rows + length c.loop-place.blocks.items + 1) _ (omega (arith, size)) (entries_of c.loop-place.targets.items) _
          c.loop-place.invariant.targets c.digest-digest.result (placed_of c.in_ok-tree.tree) (entries_of c.keep_first.new.targets.items) own
          c.in_ok-tree.ensures.tree (λ found. ap entries_of (kept found) ∙ map-append entry_of c.loop-place.targets.items _)
          (λ other. ap entries_of (c.in_ok-keep_first.ensures.left_out other));
      blocks = blocks-more nodes i node within is constants c.loop-place.blocks.items c.numbered_tree.new.blocks.items _ c.loop-place.invariant.blocks
          c.in_ok-tree.ensures.blocks;
    }

pub numbered_tree-overflow_add-at-2 : goal.numbered_tree-overflow_add-at-2
numbered_tree-overflow_add-at-2 t c =
    let some = some-block (constants_of c.args.params.now) (node_tree c.args.node.now) in
    let room = c.requires.room in
    let counted = c.len.ensures in
    omega (arith, some, room, counted)

pub numbered_tree-numbered_targets-requires : goal.numbered_tree-numbered_targets-requires
numbered_tree-numbered_targets-requires t c =
    let constants = constants_of c.args.params.now in
    let seen = ap node_tree c.in-Dyn.is ∙ node-Dyn c.in-Dyn.field-0 c.in-Dyn.places c.in-Dyn.targets in
    let hashed = hashed-targets constants c.in-Dyn.field-0 c.in-Dyn.places c.in-Dyn.targets (subst (IsHashed constants) c.in-Dyn.is c.requires.hashed) in
    let height = ap tree_height seen ∙ ap (λ xs. 1 + targets_height (targets_of xs)) (sym c.as_slice-in-Dyn.ensures.value) in
    let blocks = ap (blocks_in constants) seen ∙ blocks-dyn constants (targets_of c.in-Dyn.targets.items)
    ∙ ap (λ xs. 1 + length (inputs_in constants (targets_of xs))) (sym c.as_slice-in-Dyn.ensures.value) in
    let pushed = ap length c.in_ok-push-in-Dyn.ensures.items ∙ length_push c.args.blocks.now.items _ in
    let room = c.requires.room in
    let d = c.decreases in (
      omega (arith, height, d),
      (
        subst (λ xs. AreFirst c.in-Dyn.places (map digest_in xs)) (sym c.as_slice-in-Dyn.ensures.value) hashed.1,
        (
          subst (All (IsHashed constants)) (sym c.as_slice-in-Dyn.ensures.value) hashed.2,
          (
            subst (λ xs. AreWhole (targets_of xs)) (sym c.as_slice-in-Dyn.ensures.value) (subst IsWhole seen c.requires.whole),
            omega (arith, blocks, pushed, room),
          ),
        ),
      ),
    )

pub numbered_tree-returns-in_ok-numbered_targets-in-Dyn-clause-tree :
    goal.numbered_tree-returns-in_ok-numbered_targets-in-Dyn-clause-tree
numbered_tree-returns-in_ok-numbered_targets-in-Dyn-clause-tree t c =
    let seen = ap node_tree c.in-Dyn.is ∙ node-Dyn c.in-Dyn.field-0 c.in-Dyn.places c.in-Dyn.targets in
    let len = c.len.ensures in
    let held = c.args.blocks.now.ok in
    dyn-numbered (constants_of c.args.params.now) _ _ _ seen (ap targets_of c.as_slice-in-Dyn.ensures.value)
    c.args.rows (length c.args.blocks.now.items) _ (length c.push-in-Dyn.new.self.items) _ (entries_of c.in_ok-numbered_targets-in-Dyn.field-0.items)
    c.dynamic.ensures.is (omega (arith, len, held))
    (ap length c.in_ok-push-in-Dyn.ensures.items ∙ length_push c.args.blocks.now.items _) c.in_ok-numbered_targets-in-Dyn.ensures.targets

pub numbered_tree-returns-in_ok-numbered_targets-in-Dyn-clause-blocks :
    goal.numbered_tree-returns-in_ok-numbered_targets-in-Dyn-clause-blocks
numbered_tree-returns-in_ok-numbered_targets-in-Dyn-clause-blocks t c =
    let seen = ap node_tree c.in-Dyn.is ∙ node-Dyn c.in-Dyn.field-0 c.in-Dyn.places c.in-Dyn.targets in
    dyn-blocks (constants_of c.args.params.now) _ _ _ seen (ap targets_of c.as_slice-in-Dyn.ensures.value)
    c.args.blocks.now.items c.push-in-Dyn.new.self.items _ c.in_ok-push-in-Dyn.ensures.items c.in_ok-numbered_targets-in-Dyn.ensures.blocks

pub two-numbered_tree-requires-2 : goal.two-numbered_tree-requires-2
two-numbered_tree-requires-2 t c =
    let constants = constants_of c.args.params.now in
    let pushed = ap length c.in_ok-push.ensures.items ∙ length_push c.args.blocks.now.items _ in
    let first = inputs_of constants (node_tree c.args.a.now) in
    let behind = ap length c.in_ok-first.ensures.blocks ∙ length-append c.push.new.self.items (map shown_block first)
    ∙ ap (λ n. length c.push.new.self.items + n) (length-map first shown_block) in
    let room = c.requires.room in
    let d = c.decreases in
    (omega (arith, d), (c.requires.second, (c.requires.whole.1, omega (arith, pushed, behind, room))))
