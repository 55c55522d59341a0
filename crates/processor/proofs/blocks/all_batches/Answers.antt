use Rattle.std.proofs.Common.{rules, ap}
use Rattle.std.proofs.lemmas.List.{nil_from_length}
use Rattle.block_tree.specs.Cycles.{StartSpan}
use Rattle.vm_state.specs.Views.{state_of}
use Rattle.tree_hash.specs.Nodes.{elements_of}
use Rattle.processor.specs.Parts.{batches_in}
use Rattle.processor.proofs.RunLemmas.{ran-along, ran-fail, ran-skip, ran-then}
use Rattle.processor.proofs.SpanLemmas.{first-batch}
use Rattle.processor.proofs.blocks.all_batches.Goals as goal

pub returns-in_err-cycle-in-Some-clause-ran : goal.returns-in_err-cycle-in-Some-clause-ran
returns-in_err-cycle-in-Some-clause-ran c =
    ran-along (first-batch c.args.setting.now c.args.batches.now _ _ c.shown.result.elements (state_of c.args.runner.now.state)
    c.in-Some.ensures.cases.0 c.shown.ensures.elements)
    (ran-fail _ _ (search rules) c.in_err-cycle-in-Some.ensures.ran)

pub returns-in_err-batch_operations-in-Some-clause-ran : goal.returns-in_err-batch_operations-in-Some-clause-ran
returns-in_err-batch_operations-in-Some-clause-ran c =
    ran-along (first-batch c.args.setting.now c.args.batches.now _ _ c.shown.result.elements (state_of c.args.runner.now.state)
    c.in-Some.ensures.cases.0 c.shown.ensures.elements)
    (ran-then _ _ c.in_ok-cycle-in-Some.ensures.ran (ran-fail _ _ (search rules) c.in_err-batch_operations-in-Some.ensures.ran))

pub returns-in-None-clause-ran : goal.returns-in-None-clause-ran
returns-in-None-clause-ran c =
    ran-along (ap (λ bs. batches_in c.args.setting.now StartSpan (elements_of bs) (state_of c.args.runner.now.state))
    (nil_from_length c.args.batches.now c.in-None.ensures.cases))
    (ran-skip c.args.setting.now c.args.runner.now tt)

pub returns-in_ok-batch_operations-in-Some-clause-ran : goal.returns-in_ok-batch_operations-in-Some-clause-ran
returns-in_ok-batch_operations-in-Some-clause-ran c =
    ran-along (first-batch c.args.setting.now c.args.batches.now _ _ c.shown.result.elements (state_of c.args.runner.now.state)
    c.in-Some.ensures.cases.0 c.shown.ensures.elements)
    (ran-then _ _ c.in_ok-cycle-in-Some.ensures.ran (ran-then _ _ c.in_ok-batch_operations-in-Some.ensures.ran c.later_batches.ensures.ran))
