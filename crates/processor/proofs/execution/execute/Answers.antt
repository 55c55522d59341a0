use Rattle.std.proofs.Common.{rules}
use Rattle.processor.proofs.ExecutionLemmas.{not-ended, run_of, tape_fits}
use Rattle.processor.proofs.execution.execute.Goals as goal

pub returns-then-not-progress-clause-is : goal.returns-then-not-progress-clause-is
returns-then-not-progress-clause-is c =
    not-ended c.args.params.now c.args.program.now c.args.inputs.now c.args.limit c.in_ok-ended.ended.progress c.in_ok-ended.ensures.progress
    (search (rules, c.if-not-progress.true))

pub overflow_sub-taken : goal.overflow_sub-taken
overflow_sub-taken c =
    rw (c.advice_left.ensures, c.as_slice-advice.ensures.items)
    (tape_fits c.args.params.now c.args.program.now c.args.inputs.now c.args.limit c.in_ok-ended.ended.progress c.in_ok-ended.ensures.progress
    (search rules))

pub returns-clause-is : goal.returns-clause-is
returns-clause-is c =
    run_of c.args.params.now c.args.program.now c.args.inputs.now c.args.limit c.in_ok-ended.ended.progress
    c.in_ok-copied.field-0 c.in_ok-ended.ended.digest c.in_ok-ended.ended.permutations c.in_ok-ended.ensures.progress (search rules)
    (rw (← c.as_slice-advice.ensures.items, ← c.advice_left.ensures) c.in_ok-copied.ensures.items)
    c.in_ok-ended.ensures.digest c.in_ok-ended.ensures.permutations

pub returns-clause-was : goal.returns-clause-was
returns-clause-was c = record {
  inputs = c.args.inputs.now;
  limit = c.args.limit;
  below = c.requires.limit;
  ran =
      run_of c.args.params.now c.args.program.now c.args.inputs.now c.args.limit c.in_ok-ended.ended.progress
      c.in_ok-copied.field-0 c.in_ok-ended.ended.digest c.in_ok-ended.ended.permutations c.in_ok-ended.ensures.progress (search rules)
      (rw (← c.as_slice-advice.ensures.items, ← c.advice_left.ensures) c.in_ok-copied.ensures.items)
      c.in_ok-ended.ensures.digest c.in_ok-ended.ensures.permutations;
}
