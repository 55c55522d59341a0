use Rattle.std.proofs.Common.{length, arith, ap, subst, sym, ◌∙◌}
use Rattle.rpo_hash.specs.Constants.{constants_of}
use Rattle.tree_hash.specs.Nodes.{node_tree}
use Rattle.tree_merge.specs.AddrView.{placed_of}
use Rattle.tree_merge.specs.Placed.{plain}
use Rattle.tree_merge.specs.Sides.{IsAcross}
use Rattle.source_check.specs.Numbering.{numbered}
use Rattle.source_check.proofs.CompareLemmas.{clash-compared, fit-together, refines-both, stand-apart}
use Rattle.source_check.proofs.comparing.compare.Goals as goal

pub overflow_cast-rows : goal.overflow_cast-rows
overflow_cast-rows c =
    let counted = c.rows-rows.ensures.is in
    let room = c.requires.room in
    omega (arith, counted, room)

pub merge_in-requires : goal.merge_in-requires
merge_in-requires c =
    let counted = c.rows-rows.ensures.is in
    let none = ap length c.new-blocks.ensures.items in
    let is = c.in_ok-numbered.ensures.tree
    ∙ ap (λ n. numbered (constants_of c.args.params.now) n (node_tree c.args.source.now)) (omega (arith, counted, none)) in
    fit-together (constants_of c.args.params.now) c.args.trace.now (node_tree c.args.source.now) (placed_of c.in_ok-numbered.numbered)
    (placed_of c.args.tree) is c.known_constants.ensures.count c.requires.whole c.requires.good c.requires.digest

pub returns-in-Ok : goal.returns-in-Ok
returns-in-Ok c =
    let counted = c.rows-rows.ensures.is in
    let none = ap length c.new-blocks.ensures.items in
    let is = c.in_ok-numbered.ensures.tree
    ∙ ap (λ n. numbered (constants_of c.args.params.now) n (node_tree c.args.source.now)) (omega (arith, counted, none)) in
    refines-both (constants_of c.args.params.now) c.args.trace.now (node_tree c.args.source.now) (placed_of c.in_ok-numbered.numbered)
    (placed_of c.args.tree) is (placed_of c.in-Ok.tree) c.in_ok-into_tree-in-Ok.field-0 c.in-Ok.ensures.ok
    c.in_ok-into_tree-in-Ok.ensures.same

pub clash_of-requires : goal.clash_of-requires
clash_of-requires c =
    let counted = c.rows-rows.ensures.is in
    let none = ap length c.new-blocks.ensures.items in
    let is = c.in_ok-numbered.ensures.tree
    ∙ ap (λ n. numbered (constants_of c.args.params.now) n (node_tree c.args.source.now)) (omega (arith, counted, none)) in
    let apart = stand-apart (constants_of c.args.params.now) c.args.trace.now (node_tree c.args.source.now) (placed_of c.in_ok-numbered.numbered)
    (placed_of c.args.tree) is c.requires.good in
    subst (λ n. IsAcross n c.in-Err.stop) (sym counted) (c.in-Err.ensures.sides (length c.args.trace.now.hasher) apart)

pub returns : goal.returns
returns c =
    let counted = c.rows-rows.ensures.is in
    let none = ap length c.new-blocks.ensures.items in
    let is = c.in_ok-numbered.ensures.tree
    ∙ ap (λ n. numbered (constants_of c.args.params.now) n (node_tree c.args.source.now)) (omega (arith, counted, none)) in
    let apart = stand-apart (constants_of c.args.params.now) c.args.trace.now (node_tree c.args.source.now) (placed_of c.in_ok-numbered.numbered)
    (placed_of c.args.tree) is c.requires.good in
    clash-compared c.args.params.now c.args.trace.now (node_tree c.args.source.now) (plain (placed_of c.args.tree)) c.rows-rows.result c.in-Err.stop
    c.clash_of.result counted c.in-Err.ensures.err
    (subst (λ n. IsAcross n c.in-Err.stop) (sym counted) (c.in-Err.ensures.sides (length c.args.trace.now.hasher) apart)) c.clash_of.ensures
