use Rattle.std.proofs.Common.{◌-◌, ◌<◌, arith, ap, get_or, subst, ◌∙◌}
use Rattle.rpo_hash.specs.Constants.{constants_of}
use Rattle.tree_hash.specs.Nodes.{node_tree}
use Rattle.source_check.specs.SourceNodes.{inputs_of}
use Rattle.source_check.proofs.HashedLemmas.{node-shown}
use Rattle.source_check.proofs.sourced.SourcedHashes.first_block.Goals as goal

pub index-requires : goal.index-requires
index-requires c =
    let s = c.args.self.now in
    let rows = c.rows-rows.ensures.is in
    let past = subst (λ n. n < c.args.address) rows c.if-address-rows.false in
    let shown =
    node-shown s.trace.now.hasher (inputs_of (constants_of s.params.now) (node_tree s.source.now)) s.blocks.items c.args.address past s.blocks_right
    c.requires in
    let within = shown.within in
    let held = s.blocks.ok in
    omega (arith, within, rows, held)

pub returns : goal.returns
returns c =
    let s = c.args.self.now in
    let rows = c.rows-rows.ensures.is in
    let past = subst (λ n. n < c.args.address) rows c.if-address-rows.false in
    let shown =
    node-shown s.trace.now.hasher (inputs_of (constants_of s.params.now) (node_tree s.source.now)) s.blocks.items c.args.address past s.blocks_right
    c.requires in
    c.index.ensures ∙ ap (λ n. get_or s.blocks.items (c.args.address - n - 1) c.index.result.now) rows ∙ shown.block c.index.result.now
