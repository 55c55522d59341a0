use Rattle.std.proofs.Common.{◌≡◌, IfOk, subst, ◌∙◌}
use Rattle.rpo_hash.specs.Constants.{constants_of}
use Rattle.masm_places.specs.Texts.{Texts}
use Rattle.statement.specs.Inputs.{given_of}
use Rattle.show_trace.specs.TraceSteps.{told}
use Rattle.show_trace.proofs.SceneLemmas.{both_are_read, kernel_texts, lent_texts}
use Rattle.show_trace.proofs.tracing.told_program.Goals as goal

pub read_scenes-requires-clause-read : goal.read_scenes-requires-clause-read
read_scenes-requires-clause-read c = (both_are_read _ _ _ _ c.args.program.now c.requires.assembled).0

pub read_scenes-requires-clause-kernel_read : goal.read_scenes-requires-clause-kernel_read
read_scenes-requires-clause-kernel_read c =
    kernel_texts c.args.kernel (both_are_read _ _ _ _ c.args.program.now c.requires.assembled).1

pub returns : goal.returns
returns c =
    subst (λ (t : Texts). IfOk c.told_run.result
    (λ a. a ≡ told (constants_of c.args.constants.now) t c.args.program.now (given_of c.args.inputs.now) c.args.limit))
    (c.in_ok-sources.ensures ∙ lent_texts c.in_ok-scenes.scenes c.as_ref.result c.as_ref.ensures.value ∙ c.in_ok-scenes.ensures)
    c.told_run.ensures
