-- All pieces are all rows.
use Rattle.checker.specs.Settings.{claim_in}
use Rattle.checker.proofs.CountingLemmas.{if_all_counted}
use Rattle.checker.proofs.counting.count_all.Goals as goal

pub returns : goal.returns
returns g c =
    if_all_counted (claim_in c.args.setting.now) c.args.trace.now c.all.result c.args.pieces c.count_part.result c.requires.counts c.all.ensures.pieces
    c.all.ensures.low c.all.ensures.high c.count_part.ensures
