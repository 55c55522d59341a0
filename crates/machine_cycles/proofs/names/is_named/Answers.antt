use Rattle.std.proofs.Common.{sym, ◌∙◌, arith}
use lib.Pointwise.{bytes_decides}
use Rattle.machine_cycles.specs.Names.{zeros}
use Rattle.machine_cycles.proofs.NameLemmas.{named-at}
use Rattle.machine_cycles.proofs.names.is_named.Goals as goal

pub returns-in-Some-get : goal.returns-in-Some-get
returns-in-Some-get c = λ same.
    named-at c.args.uses.now c.args.n c.in-Some.place c.in-Some-get.known.now c.args.elements.now zeros (omega (arith, c.in-Some.ensures))
    c.in-Some-get.ensures.lookup.0 c.in-Some-get.ensures.lookup.1 ((bytes_decides _ _).0 (sym c.eq.ensures ∙ same))
