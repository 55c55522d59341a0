-- What is told of how far a run has come is what is told of its outcome.
use Rattle.std.proofs.Common.{◌≡◌, ℕ, Bool, true, false, if◌then◌else◌, ◌++◌, ap, subst, sym, ◌∙◌}
use Rattle.vm_field.specs.Machine.{State}
use Rattle.rpo_hash.specs.Constants.{constants_of}
use Rattle.rpo_hash.specs.declared.params.Params.{Params}
use Rattle.block_tree.specs.Execution.{Outcome, Done, Trap, OutOfCycles, IsCutOff, cut_off}
use Rattle.block_tree.specs.declared.program.Program.{Program}
use Rattle.vm_state.specs.Views.{state_of}
use Rattle.vm_state.specs.declared.inputs.Inputs.{Inputs}
use Rattle.processor.specs.Advanced.{IsProgressOf}
use Rattle.processor.specs.Executed.{outcome_of}
use Rattle.processor.specs.declared.progress.Progress.{Progress}
use Rattle.masm_places.specs.Texts.{Texts}
use Rattle.statement.specs.Inputs.{given_of}
use Rattle.cmd_kit.specs.RunEnds.{limit_line}
use Rattle.cmd_kit.specs.Steps.{ends_with}
use Rattle.cmd_kit.specs.declared.status.Status.TheVariants as status
use Rattle.show_cycles.specs.CycleLines.{cycles_text, stand_line}
use Rattle.show_cycles.specs.NextLine.{next_line}
use Rattle.show_trace.specs.Telling.{halt_text, progress_answer}
use Rattle.show_trace.specs.TraceSteps.{cut_in, told, told_outcome}

-- the only outcome that is cut off
abbrev IsOutOfCycles : Outcome → Type 0
IsOutOfCycles (Done s events) = ⊥
IsOutOfCycles (Trap clock cause) = ⊥
IsOutOfCycles (OutOfCycles s events) = Unit {0}

out_of_cycles : (o : Outcome) → IsCutOff o → IsOutOfCycles o
out_of_cycles _ (cut_off s events) = tt

module _ (params : Params) (texts : Texts) (program : Program) (inputs : Inputs) (limit : ℕ) (p : Progress)
    (far : IsProgressOf params program inputs limit p) where
  abbrev last : State
  last = state_of p.state

  abbrev came : Bool → Outcome
  came b = if b then Done last far.log else OutOfCycles last far.log

  by_flag : (b : Bool)
      → (if b then ends_with status.Ok (cycles_text texts p.events ++ stand_line last)
      else ends_with status.OutOfCycles (cycles_text texts p.events ++ stand_line last ++ next_line texts p.events ++ limit_line limit))
      ≡ told_outcome (constants_of params) texts program (given_of inputs) limit (came b)
  by_flag true = ap (λ events. ends_with status.Ok (cycles_text texts events ++ stand_line last)) far.events
  by_flag false =
      ap (λ events. ends_with status.OutOfCycles (cycles_text texts events ++ stand_line last ++ next_line texts events ++ limit_line limit))
      far.events

  pub progress_told : progress_answer texts limit p ≡ told (constants_of params) texts program (given_of inputs) limit
  progress_told =
      by_flag p.is_done ∙ sym (ap (told_outcome (constants_of params) texts program (given_of inputs) limit) far.outcome)

  cut_by_flag : (b : Bool) → IsCutOff (came b) → halt_text texts p ≡ cut_in (constants_of params) texts program (came b)
  cut_by_flag true cut = absurd (out_of_cycles (came true) cut)
  cut_by_flag false cut = ap (λ events. cycles_text texts events ++ stand_line last ++ next_line texts events) far.events

  pub cut_told : IsCutOff (outcome_of params program inputs limit)
      → halt_text texts p ≡ cut_in (constants_of params) texts program (outcome_of params program inputs limit)
  cut_told cut =
      cut_by_flag p.is_done (subst IsCutOff far.outcome cut) ∙ sym (ap (cut_in (constants_of params) texts program) far.outcome)
