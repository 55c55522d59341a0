use Rattle.masm_tables.proofs.Words.{refl}
use Rattle.masm_tables.proofs.Put.{puts_one}
use Rattle.masm_tables.proofs.listing.put_list.Goals as goal

pub returns-then-step-clause-list : goal.returns-then-step-clause-list
returns-then-step-clause-list c =
    puts_one c.kept.result c.if-step.true c.requires.place refl c.kept.ensures
