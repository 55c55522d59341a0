use Rattle.std.proofs.Common.{nat_eq, ◌&&◌, sym, ◌∙◌, ap, arith}
use Rattle.std.proofs.lemmas.List.{take_all}
use Rattle.machine_cycles.proofs.NameLemmas.{same-more}
use Rattle.machine_cycles.proofs.names.are_same.Goals as goal

pub loop-i-preserved : goal.loop-i-preserved
loop-i-preserved c = λ e.
    same-more c.args.part.now c.args.lower.now c.loop-i.i c.index-part-i.result c.index-lower-i.result c.loop-i.same
    (omega (arith, c.loop-i-test.true, c.requires)) (omega (arith, c.loop-i-test.true, c.told-lower)) c.index-part-i.is c.index-lower-i.is
    c.loop-i.invariant
    (sym (ap (λ b. c.loop-i.same && b) (c.eq-same.ensures ∙ ap (nat_eq c.index-part-i.result) (sym c.index-lower-i.is))) ∙ e)

pub returns : goal.returns
returns c = λ e.
    sym (take_all c.loop-i.i c.args.part.now (omega (arith, c.loop-i-test.false, c.requires)))
    ∙ c.loop-i.invariant e ∙ take_all c.loop-i.i c.args.lower.now (omega (arith, c.loop-i-test.false, c.told-lower))
