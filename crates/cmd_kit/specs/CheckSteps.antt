-- The steps of `check`.
use Rattle.std.specs.Prelude.{ℕ, List}
use Rattle.air_kit.specs.declared.trace.Trace.{Trace}
use Rattle.statement.specs.Statements.{Stated}
use Rattle.cmd_kit.specs.CheckEnds.{refusal}
use Rattle.cmd_kit.specs.Starts.{params_steps, trace_steps, statement_steps}
use Rattle.cmd_kit.specs.Steps.{telling, evidence_for, checked, Verdict, accepted, refused, Steps, writing, asking, ending}

-- A trace that is accepted has evidence, which is written and told; one that is refused is refused by name.
abbrev pub found_steps : List ℕ → List ℕ → Stated → Trace → Verdict → Steps
found_steps name constants claim trace accepted =
    writing name (evidence_for constants claim trace) (λ bytes. ending (telling constants claim trace bytes))
found_steps name constants claim trace (refused why) = ending (refusal why)

abbrev pub judging_steps : List ℕ → List ℕ → Trace → Stated → Steps
judging_steps evidence constants trace claim = asking (checked constants claim trace) (found_steps evidence constants claim trace)

abbrev pub check_steps : List ℕ → List ℕ → List ℕ → List ℕ → Steps
check_steps params table statement evidence =
    params_steps params (λ constants. trace_steps table (λ trace. statement_steps statement (judging_steps evidence constants trace)))
