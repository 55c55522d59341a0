use Rattle.std.proofs.Common.{rules, refl}
use Rattle.machine_cycles.specs.Marks.{mark_of}
use Rattle.machine_cycles.proofs.CycleLemmas.{ran-late, mark-stop, mark-done}
use Rattle.vm_field.specs.Machine.{zero_word}
use Rattle.machine_cycles.proofs.cycling.cycle.Goals as goal

pub returns-in_err-before-clause-ran : goal.returns-in_err-before-clause-ran
returns-in_err-before-clause-ran c =
    ran-late c.args.setting.now (mark_of c.args.mark) c.args.runner.now c.in_err-before.ensures.1 (search rules)

pub returns-in-Err-clause-ran : goal.returns-in-Err-clause-ran
returns-in-Err-clause-ran c =
    mark-stop c.args.setting.now c.args.mark c.args.runner.now.state c.effect.new.state c.in-Err.stop c.in_ok-before.before c.stop_at.result
    c.in_ok-before.ensures c.stop_at.ensures c.in-Err.ensures.effect

pub returns-clause-ran : goal.returns-clause-ran
returns-clause-ran c =
    mark-done c.args.setting.now c.args.mark c.args.runner.now.state c.effect.new.state
    c.op-op.result c.in_ok-before.before zero_word zero_word c.hash-hash.result c.top_of-top.result
    c.in_ok-before.ensures c.in_default.ensures.effect refl c.op-op.ensures refl refl c.hash-hash.ensures c.top_of-top.ensures
    c.in_ok-push_block.ensures.ok
