use Rattle.std.proofs.Common.{◌∙◌, ap, reverse, take}
use Rattle.vm_field.specs.Permutation.{permuted}
use Rattle.vm_state.specs.Views.{state_of}
use Rattle.op_steps.proofs.Steps.{hperm_quietly}
use Rattle.op_steps.proofs.stepping.step_hperm.Goals as goal

pub returns-clause-step : goal.returns-clause-step
returns-clause-step c = λ item is.
    rw (c.settle.ensures, c.as_slice.ensures.is)
    (hperm_quietly c.args.permutations.now item (state_of c.args.state.now) c.cells_behind-left.result is
    (c.cells_behind-left.ensures.is
    ∙ ap reverse c.permuted-permuted.ensures.is
    ∙ ap (λ x. reverse (permuted c.args.permutations.now x)) (c.hashed_state.ensures ∙ ap (λ x. reverse (take 12 x)) c.top_cells.ensures.is))
    c.cells_behind-left.ensures.count c.top_cells.ensures.sixteen)
