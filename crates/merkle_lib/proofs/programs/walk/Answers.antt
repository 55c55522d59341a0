use Rattle.std.proofs.Common.{◌∙◌, arith}
use Rattle.merkle_lib.proofs.Cuts.{more_levels, walk_joined}
use Rattle.merkle_lib.proofs.programs.walk.Goals as goal

pub loop-preserved : goal.loop-preserved
loop-preserved c =
    more_levels c.loop.items c.append.new.self _ c.as_slice.result.now c.args.depth c.loop.counter (omega arith)
    (c.as_slice.ensures.items ∙ c.in_ok-level.ensures) c.in_ok-append.ensures.ok c.loop.invariant

pub returns : goal.returns
returns c =
    walk_joined c.loop.items c.add.new.items c.new.result c.args.depth c.loop.counter (omega arith) c.new.ensures.empty
    c.in_ok-add.ensures c.loop.invariant
