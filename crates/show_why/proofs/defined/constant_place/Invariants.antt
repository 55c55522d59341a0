use Rattle.std.proofs.Common.{◌≡◌, drop}
use Rattle.show_why.specs.Sentences.{constant_place}
use Rattle.show_why.proofs.defined.constant_place.Given as goal

abbrev pub invariant-loop-constant : goal.invariant-loop-constant
invariant-loop-constant l = constant_place (drop l.constant-index l.consts) l.name ≡ constant_place l.consts l.name
