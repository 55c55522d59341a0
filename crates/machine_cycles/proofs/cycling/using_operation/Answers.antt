use Rattle.std.proofs.Common.{rules}
use Rattle.block_tree.specs.Cycles.{Do}
use Rattle.machine_cycles.specs.Settings.{constants_in}
use Rattle.machine_cycles.proofs.CycleLemmas.{ran-late}
use Rattle.machine_cycles.proofs.OperationLemmas.{address-fits, operation-stop, operation-done, pushes-alone}
use Rattle.vm_state.specs.Views.{state_of}
use Rattle.machine_cycles.proofs.cycling.using_operation.Goals as goal

pub returns-in_err-before-clause-ran : goal.returns-in_err-before-clause-ran
returns-in_err-before-clause-ran c =
    ran-late c.args.setting.now (Do c.args.item.now) c.args.runner.now c.in_err-before.ensures.1 (search rules)

pub returns-in-Err-clause-ran : goal.returns-in-Err-clause-ran
returns-in-Err-clause-ran c =
    operation-stop c.args.setting.now c.args.item.now c.args.runner.now.state c.in-Err.stop (state_of c.stepped.new.runner.state)
    c.in_ok-before.before c.stop_at.result
    c.in_ok-before.ensures c.stop_at.ensures c.in-Err.ensures.step

pub word_behind-word-requires : goal.word_behind-word-requires
word_behind-word-requires c = record {
  address =
      address-fits (constants_in c.args.setting.now) c.args.item.now c.args.runner.now.state (state_of c.stepped.new.runner.state)
      c.in_ok-before.before c.in_ok-before.ensures.0 c.in_default.ensures.step;
}

pub returns-clause-ran : goal.returns-clause-ran
returns-clause-ran c =
    operation-done c.args.setting.now c.args.item.now c.args.runner.now.state
    c.in_ok-before.before c.next_advice-tape.result c.word_behind-word.result c.top_of-top.result
    c.in_ok-before.ensures c.in_default.ensures.step c.next_advice-tape.ensures c.word_behind-word.ensures c.top_of-top.ensures
    (rw c.in_default.ensures.log at c.in_ok-push_operation.ensures.ok)

pub push_operation-requires : goal.push_operation-requires
push_operation-requires c =
    pushes-alone c.args.item.now c.requires.item c.next_advice-tape.result c.word_behind-word.result c.args.runner.now.state.tape _
    c.next_advice-tape.ensures c.word_behind-word.ensures
