use Rattle.std.proofs.Common.{◌≡◌, Some, slice_get, ◌∙◌}
use Rattle.masm_places.specs.Pending.{level_of, levels_in}
use Rattle.show_cycles.proofs.LevelLemmas.{next_level}
use Rattle.show_cycles.proofs.places.append_levels.Goals as goal

pub loop-number-preserved : goal.loop-number-preserved
loop-number-preserved c =
    let at : Some (level_of c.in-Some.level) ≡ slice_get (levels_in c.args.levels.now) c.loop-number.number = c.in-Some.ensures in
    next_level c.loop-number.text c.append_level.new.text c.loop-number.placed c.begins_procedure-placed.result (levels_in c.args.levels.now)
    c.loop-number.number (level_of c.in-Some.level) at c.in_ok-append_level.ensures c.begins_procedure-placed.ensures
    ∙ c.loop-number.invariant
