use Rattle.std.proofs.Common.{rules, ◌+◌, ◌∙◌, drop, Ok}
use Rattle.block_tree.specs.Cycles.{Do}
use Rattle.machine_cycles.specs.Settings.{cycle_in}
use Rattle.processor.specs.Parts.{operations_in}
use Rattle.processor.proofs.RunLemmas.{left-fail, left-next}
use Rattle.processor.proofs.SpanLemmas.{left-operation, no_operations}
use Rattle.processor.proofs.blocks.all_operations.Goals as goal

pub returns-in_err-operation-clause-ran : goal.returns-in_err-operation-clause-ran
returns-in_err-operation-clause-ran c =
    left-fail (cycle_in c.args.setting.now (Do c.item-item.result))
    (operations_in c.args.setting.now (drop (c.loop-item.item-index + 1) c.args.items.now))
    (left-operation c.args.setting.now c.args.items.now c.loop-item.item-index c.item-item.result c.loop-item-test.true
    c.item-item.is c.loop-item.invariant.ran)
    (search rules) c.in_err-operation.ensures.ran

pub loop-item-preserved : goal.loop-item-preserved
loop-item-preserved c = record {
  ran =
      left-next (cycle_in c.args.setting.now (Do c.item-item.result))
      (operations_in c.args.setting.now (drop (c.loop-item.item-index + 1) c.args.items.now))
      (left-operation c.args.setting.now c.args.items.now c.loop-item.item-index c.item-item.result c.loop-item-test.true
      c.item-item.is c.loop-item.invariant.ran)
      c.in_ok-operation.ensures.ran;
  same = c.in_ok-operation.ensures.same ∙ c.loop-item.invariant.same;
}

pub returns-clause-ran : goal.returns-clause-ran
returns-clause-ran c =
    c.loop-item.invariant.ran.goes (Ok tt) c.loop-item.runner
    (no_operations c.args.setting.now c.args.items.now c.loop-item.item-index c.loop-item.runner tt c.loop-item-test.false)
