use Rattle.std.proofs.Common.{ℕ, ◌<◌, length, arith, length-set, slice_index}
use Rattle.std.proofs.lemmas.List.{take_more_set, map_more}
use Rattle.op_steps.proofs.moves.moved.Goals as goal

pub loop-i-preserved : goal.loop-i-preserved
loop-i-preserved c =
    let low : c.loop-i.i < length c.loop-i.copies = omega arith in
    let in_sources : c.loop-i.i < length c.sources-sources.result.now = omega arith in (
      omega (arith, length-set {A = ℕ}),
      rw (
        take_more_set c.loop-i.copies c.loop-i.i _ low,
        map_more (slice_index c.args.cells.now) c.sources-sources.result.now c.loop-i.i 0 in_sources,
      )
          (cc (c.loop-i.invariant.1, c.felt_at.ensures.is)),
    )
