-- What the code tells of how far a run has come.
use Rattle.std.specs.Prelude.{ℕ, List, ◌++◌, if◌then◌else◌}
use Rattle.processor.specs.declared.progress.Progress.{Progress}
use Rattle.vm_state.specs.Views.{state_of}
use Rattle.masm_places.specs.Texts.{Texts}
use Rattle.cmd_kit.specs.RunEnds.{limit_line}
use Rattle.cmd_kit.specs.Steps.{ends_with}
use Rattle.cmd_kit.specs.declared.answer.Answer.{Answer}
use Rattle.cmd_kit.specs.declared.status.Status.TheVariants as status
use Rattle.show_cycles.specs.CycleLines.{cycles_text, stand_line}
use Rattle.show_cycles.specs.NextLine.{next_line}

-- its cycles, and the state behind them
abbrev pub progress_text : Texts → Progress → List ℕ
progress_text texts p = cycles_text texts p.events ++ stand_line (state_of p.state)

-- and behind these where it would go on
abbrev pub halt_text : Texts → Progress → List ℕ
halt_text texts p = progress_text texts p ++ next_line texts p.events

abbrev pub progress_answer : Texts → ℕ → Progress → Answer
progress_answer texts limit p =
    if p.is_done then ends_with status.Ok (progress_text texts p) else ends_with status.OutOfCycles (halt_text texts p ++ limit_line limit)
