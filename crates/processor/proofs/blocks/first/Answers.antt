use Rattle.std.proofs.Common.{sym, ◌∙◌}
use Rattle.processor.proofs.FirstLemmas.{first-none, first-some}
use Rattle.processor.proofs.blocks.first.Goals as goal

pub returns-in-Some-clause-is : goal.returns-in-Some-clause-is
returns-in-Some-clause-is c = λ constants hashed.
    first-some constants c.args.digest.now c.args.targets.now c.in-Some.place c.get.result hashed
    (sym (sym c.in-Some.is ∙ c.place.ensures.is ∙ c.requires c.args.digest.now)) c.get.ensures.lookup.0 c.get.ensures.lookup.1

pub returns-in-None-clause-is : goal.returns-in-None-clause-is
returns-in-None-clause-is c = λ constants hashed.
    sym (first-none constants c.args.digest.now c.args.targets.now hashed (sym (c.requires c.args.digest.now) ∙ (sym c.place.ensures.is ∙ c.in-None.is)))
