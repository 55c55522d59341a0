-- Answers step by step.
use Rattle.std.proofs.Common.{Result, Err, refl}
use Rattle.answers.specs.Gives.{Gives}
use Rattle.statement.specs.Causes.{and_then, cause_in}
use Rattle.statement.specs.declared.refusal.TextCause.{TextCause}
use Rattle.statement.specs.declared.refusal.TextError.{TextError}
use Rattle.statement.specs.declared.refusal.TextError.TheVariants.{Bad, Memory}

-- an error of a step is one of those that follow
pub stops : {A B C D : Type 0} (see : A → B) (see_last : C → D) (error : TextError) (defined : Result B TextCause) (step : B → Result D TextCause)
    → Gives see cause_in (Err error) defined → Gives see_last cause_in (Err error) (and_then defined step)
stops see see_last (Bad cause) defined step h = rw h refl
stops see see_last Memory defined step h = tt
