use Rattle.std.proofs.Common.{◌≡◌, drop}
use Rattle.show_tokens.specs.Paths.{has_header}
use Rattle.show_tokens.proofs.paths.has_header.Given as goal

abbrev pub invariant-loop-header : goal.invariant-loop-header
invariant-loop-header l = has_header (drop l.header-index l.procedures) l.name ≡ has_header l.procedures l.name
