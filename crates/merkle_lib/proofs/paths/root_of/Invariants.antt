use Rattle.std.proofs.Common.{◌≡◌, take}
use Rattle.std.specs.List.{fold}
use Rattle.rpo_hash.specs.Constants.{constants_of}
use Rattle.merkle_lib.specs.Paths.{parent}
use Rattle.merkle_lib.proofs.paths.root_of.Given as goal

abbrev pub invariant-loop-step : goal.invariant-loop-step
invariant-loop-step l = l.node ≡ fold (parent (constants_of l.params)) l.leaf (take l.step-index l.steps)
