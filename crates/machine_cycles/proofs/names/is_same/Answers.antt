use Rattle.std.proofs.Common.{sym, ◌∙◌}
use lib.Pointwise.{bytes_decides}
use Rattle.machine_cycles.proofs.NameLemmas.{scene-same}
use Rattle.machine_cycles.proofs.names.is_same.Goals as goal

pub returns-then-eq : goal.returns-then-eq
returns-then-eq c = λ alike. scene-same c.args.a.now c.args.b.now ((bytes_decides _ _).0 (sym c.eq.ensures ∙ c.if-eq.true)) (c.is_alike.ensures alike)
