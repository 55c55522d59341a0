use Rattle.std.proofs.Common.{◌∙◌, sym}
use Rattle.std.specs.List.{IsDistinct}
use Rattle.merkle_lib.proofs.Packed.{walk-packs}
use Rattle.merkle_lib.proofs.programs.program.Goals as goal

pub pack-requires : goal.pack-requires
pack-requires c = λ none. (walk-packs c.args.depth).some (sym (c.as_slice.ensures.items ∙ c.in_ok-items.ensures) ∙ none)

pub new-requires-3-clause-distinct : goal.new-requires-3-clause-distinct
unfolding IsDistinct
new-requires-3-clause-distinct c = rw c.new.ensures.empty tt
