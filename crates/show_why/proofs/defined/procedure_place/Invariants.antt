use Rattle.std.proofs.Common.{◌≡◌, drop}
use Rattle.show_why.specs.Sentences.{procedure_place}
use Rattle.show_why.proofs.defined.procedure_place.Given as goal

abbrev pub invariant-loop-header : goal.invariant-loop-header
invariant-loop-header l = procedure_place (drop l.header-index l.headers) l.name ≡ procedure_place l.headers l.name
