use Rattle.std.proofs.Common.{rules}
use Rattle.vm_state.specs.Views.{state_of}
use Rattle.tree_hash.specs.Nodes.{elements_of}
use Rattle.processor.proofs.RunLemmas.{ran-along, ran-fail, ran-then}
use Rattle.processor.proofs.SpanLemmas.{span-as}
use Rattle.processor.proofs.blocks.span.Goals as goal

pub returns-in_err-all_batches-clause-ran : goal.returns-in_err-all_batches-clause-ran
returns-in_err-all_batches-clause-ran c =
    ran-along (span-as c.args.setting.now (elements_of c.args.batches.now) c.args.digest.now (state_of c.args.runner.now.state) c.requires.digest)
    (ran-fail _ _ (search rules) c.in_err-all_batches.ensures.ran)

pub returns-clause-ran : goal.returns-clause-ran
returns-clause-ran c =
    ran-along (span-as c.args.setting.now (elements_of c.args.batches.now) c.args.digest.now (state_of c.args.runner.now.state) c.requires.digest)
    (ran-then _ _ c.in_ok-all_batches.ensures.ran c.cycle.ensures.ran)
