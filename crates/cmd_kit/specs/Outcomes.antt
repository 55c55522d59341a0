-- What a command's work leaves before its line is printed.
use Rattle.std.specs.Prelude.{◌≡◌, ℕ, List, Option, Some, Result, Ok, Err}
use Rattle.vm_field.specs.declared.refusal.Memory.{Memory}
use Rattle.vm_io.specs.Shelf.{ShelfState}
use Rattle.vm_io.specs.Sink.{SinkState, SinkFails, with_piece}
use Rattle.cmd_kit.specs.declared.status.Status.{Status}
use Rattle.cmd_kit.specs.declared.status.Status.TheVariants as status
use Rattle.cmd_kit.specs.declared.answer.Answer.{Answer}
use Rattle.cmd_kit.specs.declared.outcome.Outcome.{Outcome}
use Rattle.cmd_kit.specs.declared.outcome.Outcome.TheVariants as outcome
use Rattle.cmd_kit.specs.Statuses.{planned, kind_of}
use Rattle.cmd_kit.specs.Steps.{End, Steps, ends_with}
use Rattle.cmd_kit.specs.Commands.{EndsAs}
use Rattle.cmd_kit.specs.Serving.{Works, GivesUp}

-- the answer is one of the end's
pub record IsAnswerOfEnd (end : End) (a : Answer) : Type 0 where
  pub ends : EndsAs end a
  pub kind : kind_of a.status ≡ planned

-- What the command's own work comes to, with no call of the shelf. Want of memory says nothing.
abbrev pub ComesTo : End → Outcome → Type 0
ComesTo end (outcome.Ends a) = IsAnswerOfEnd end a
ComesTo end outcome.Memory = Unit {0}

-- these steps ended, from the old shelf to the new one
abbrev pub EndsIn : Option Steps → Outcome → ShelfState → ShelfState → Type 0
EndsIn steps (outcome.Ends a) old new = Works steps (kind_of a.status) a old new
EndsIn steps outcome.Memory old new = GivesUp steps old new

-- However the rest ends from here, so the steps end from where they began.
abbrev pub Continues : Steps → Steps → ShelfState → ShelfState → Type 0
Continues steps rest old mid = (end : Outcome) (new : ShelfState) → EndsIn (Some rest) end mid new → EndsIn (Some steps) end old new

-- Steps that begin with what a file says go on with this value, whatever they are.
abbrev pub Loads : {A : Type 0} → ((A → Steps) → Steps) → A → ShelfState → ShelfState → Type 0
Loads {A} steps value old mid = (next : A → Steps) → Continues (steps next) (next value) old mid

-- Steps that begin with what a file says ended there, whatever was to come.
abbrev pub EndsThere : {A : Type 0} → ((A → Steps) → Steps) → Outcome → ShelfState → ShelfState → Type 0
EndsThere {A} steps end old new = (next : A → Steps) → EndsIn (Some (steps next)) end old new

-- what a command ended with, early or behind its last step
abbrev pub either : Result Outcome Outcome → Outcome
either (Ok end) = end
either (Err end) = end

-- an answer that is this status with this line, unless memory is refused
abbrev pub SaysStatus : Outcome → Status → List ℕ → Type 0
SaysStatus (outcome.Ends a) s line = a ≡ ends_with s line
SaysStatus outcome.Memory s line = Unit {0}

-- an answer that is this one, unless memory is refused
abbrev pub SaysAnswer : Outcome → Answer → Type 0
SaysAnswer o a = SaysStatus o a.status a.line

-- the answer with a line, where there was memory for it
abbrev pub SaysLine : Outcome → Status → Result (List ℕ) Memory → Type 0
SaysLine o s (Ok line) = SaysStatus o s line
SaysLine o s (Err e) = o ≡ outcome.Memory

-- What printing a command's line leaves. A status other than the command's own says that the sink or memory failed.
pub data PrintStep : Outcome → Status → SinkState → SinkState → Type 0 where
  printed : (a : Answer) {before now : SinkState} → now ≡ record before { taken = with_piece before.taken a.line }
      → PrintStep (outcome.Ends a) a.status before now
  refused : (a : Answer) {before now : SinkState} → SinkFails before now a.line → PrintStep (outcome.Ends a) status.SinkFault before now
  given_up : (o : Outcome) {before now : SinkState} → now ≡ before → PrintStep o status.Memory before now
