use Rattle.std.proofs.Common.{rules, ◌+◌, ◌∙◌, drop, Ok}
use Rattle.block_tree.specs.Cycles.{Respan}
use Rattle.block_tree.specs.Execution.{seq}
use Rattle.op_pack.specs.Reading.{reading}
use Rattle.tree_hash.specs.Nodes.{elements_of}
use Rattle.machine_cycles.specs.Settings.{cycle_in}
use Rattle.processor.specs.Parts.{batches_in, read_operations_in}
use Rattle.processor.proofs.RunLemmas.{left-fail, left-next}
use Rattle.processor.proofs.SpanLemmas.{left-batch, no_batches}
use Rattle.processor.proofs.blocks.later_batches.Goals as goal

pub returns-in_err-cycle-clause-ran : goal.returns-in_err-cycle-clause-ran
returns-in_err-cycle-clause-ran c =
    left-fail (cycle_in c.args.setting.now (Respan c.shown.result.elements))
    (seq (read_operations_in c.args.setting.now (reading c.batch-item.result.elements))
    (batches_in c.args.setting.now Respan (elements_of (drop (c.loop-batch.batch-index + 1) c.args.batches.now))))
    (left-batch c.args.setting.now c.args.batches.now c.loop-batch.batch-index c.batch-item.result c.shown.result.elements
    c.loop-batch-test.true c.batch-item.is c.shown.ensures.elements c.loop-batch.invariant.ran)
    (search rules) c.in_err-cycle.ensures.ran

pub returns-in_err-batch_operations-clause-ran : goal.returns-in_err-batch_operations-clause-ran
returns-in_err-batch_operations-clause-ran c =
    left-fail (read_operations_in c.args.setting.now (reading c.batch-item.result.elements))
    (batches_in c.args.setting.now Respan (elements_of (drop (c.loop-batch.batch-index + 1) c.args.batches.now)))
    (left-next (cycle_in c.args.setting.now (Respan c.shown.result.elements))
    (seq (read_operations_in c.args.setting.now (reading c.batch-item.result.elements))
    (batches_in c.args.setting.now Respan (elements_of (drop (c.loop-batch.batch-index + 1) c.args.batches.now))))
    (left-batch c.args.setting.now c.args.batches.now c.loop-batch.batch-index c.batch-item.result c.shown.result.elements
    c.loop-batch-test.true c.batch-item.is c.shown.ensures.elements c.loop-batch.invariant.ran)
    c.in_ok-cycle.ensures.ran)
    (search rules) c.in_err-batch_operations.ensures.ran

pub loop-batch-preserved : goal.loop-batch-preserved
loop-batch-preserved c = record {
  ran =
      left-next (read_operations_in c.args.setting.now (reading c.batch-item.result.elements))
      (batches_in c.args.setting.now Respan (elements_of (drop (c.loop-batch.batch-index + 1) c.args.batches.now)))
      (left-next (cycle_in c.args.setting.now (Respan c.shown.result.elements))
      (seq (read_operations_in c.args.setting.now (reading c.batch-item.result.elements))
      (batches_in c.args.setting.now Respan (elements_of (drop (c.loop-batch.batch-index + 1) c.args.batches.now))))
      (left-batch c.args.setting.now c.args.batches.now c.loop-batch.batch-index c.batch-item.result c.shown.result.elements
      c.loop-batch-test.true c.batch-item.is c.shown.ensures.elements c.loop-batch.invariant.ran)
      c.in_ok-cycle.ensures.ran)
      c.in_ok-batch_operations.ensures.ran;
  same = c.in_ok-batch_operations.ensures.same ∙ (c.in_ok-cycle.ensures.same ∙ c.loop-batch.invariant.same);
}

pub returns-clause-ran : goal.returns-clause-ran
returns-clause-ran c =
    c.loop-batch.invariant.ran.goes (Ok tt) c.loop-batch.runner
    (no_batches c.args.setting.now c.args.batches.now c.loop-batch.batch-index c.loop-batch.runner tt c.loop-batch-test.false)
