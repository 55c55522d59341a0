use Rattle.masm_flat.proofs.Words.{◌<◌, length, map, ap, arith, length-map, tree_of, as_tree}
use Rattle.masm_flat.proofs.Levels.{paired-shorter, joined-next}
use Rattle.masm_flat.proofs.joining.join_levels.Goals as goal

pub loop-alloc-smaller : goal.loop-alloc-smaller
loop-alloc-smaller c =
    let blocks = map tree_of c.loop-alloc.level.items in
    let more : 1 < length blocks = omega (arith, length-map c.loop-alloc.level.items tree_of) in
    let fewer = paired-shorter as_tree.span as_tree.join blocks more in
    let next = ap length c.in_ok-level.ensures in
    omega (arith, length-map c.loop-alloc.level.items tree_of, length-map c.in_ok-level.level.items tree_of)

pub loop-alloc-preserved : goal.loop-alloc-preserved
loop-alloc-preserved c =
    let blocks = map tree_of c.loop-alloc.level.items in
    let more : 1 < length blocks = omega (arith, length-map c.loop-alloc.level.items tree_of) in
    let step = joined-next as_tree.span as_tree.join blocks more in
    cc c.in_ok-level.ensures
