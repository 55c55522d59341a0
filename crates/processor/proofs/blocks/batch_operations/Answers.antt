use Rattle.std.proofs.Common.{rules, ◌≡◌, None, sym, ap, ◌∙◌}
use Rattle.op_pack.specs.Reading.{reading}
use Rattle.op_pack.proofs.OrdinaryLemmas.{ordinary_reading}
use Rattle.vm_state.specs.Views.{state_of}
use Rattle.processor.specs.Parts.{read_operations_in}
use Rattle.processor.proofs.RunLemmas.{ran-along, ran-skip}
use Rattle.processor.proofs.blocks.batch_operations.Goals as goal

pub all_operations-requires-clause-ordinary : goal.all_operations-requires-clause-ordinary
all_operations-requires-clause-ordinary c =
    ordinary_reading c.args.batch.now.elements c.as_slice.result.now c.args.batch.now.is_batch
    (sym c.args.batch.now.read ∙ search rules)

pub returns-in-None-clause-ran : goal.returns-in-None-clause-ran
returns-in-None-clause-ran c =
    let none : reading c.args.batch.now.elements ≡ None = search rules in
    ran-along (ap (λ o. read_operations_in c.args.setting.now o (state_of c.args.runner.now.state)) none)
    (ran-skip c.args.setting.now c.args.runner.now tt)
