use Rattle.std.proofs.Common.{◌∙◌, sym, arith}
use lib.Pointwise.{bytes_decides}
use Rattle.machine_cycles.proofs.names.name_elements.Goals as goal

pub returns-then-plain-clause-is : goal.returns-then-plain-clause-is
returns-then-plain-clause-is c = (omega arith, sym (c.requires c.if-plain.true))

pub returns-then-eq-clause-is : goal.returns-then-eq-clause-is
returns-then-eq-clause-is c = (omega arith, sym ((bytes_decides _ _).0 (sym c.eq.ensures ∙ c.if-eq.true)))
