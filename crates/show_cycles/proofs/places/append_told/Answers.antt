use Rattle.std.proofs.Common.{◌<◌, length, arith}
use Rattle.masm_places.specs.Pending.{levels_in}
use Rattle.show_cycles.proofs.LevelLemmas.{told_from}
use Rattle.show_cycles.proofs.places.append_told.Goals as goal

pub returns : goal.returns
returns c =
    let some : c.args.first < length (levels_in c.args.levels.now) = omega arith in
    told_from c.append_levels.result _ _ (levels_in c.args.levels.now) c.args.first some c.append_levels.ensures
