-- Why a text is refused.
use Rattle.std.specs.Prelude.{ℕ, List, codes, Option, Some, None, Result, Ok, Err}
use Rattle.statement.specs.declared.refusal.TextCause.{TextCause}
use Rattle.statement.specs.declared.refusal.TextCause.TheVariants.{NotJson, Shape, Element, Digest, Count, Repeated}
use Rattle.statement.specs.declared.refusal.TextError.{TextError}
use Rattle.statement.specs.declared.refusal.TextError.TheVariants.{Bad, Memory}

-- a cause, as it is printed
abbrev pub text_of_cause : TextCause → List ℕ
text_of_cause NotJson = codes "NotJson"
text_of_cause Shape = codes "Shape"
text_of_cause Element = codes "Element"
text_of_cause Digest = codes "Digest"
text_of_cause Count = codes "Count"
text_of_cause Repeated = codes "Repeated"

-- what an error says of the text: its cause, if it has one
abbrev pub cause_in : TextError → Option TextCause
cause_in (Bad cause) = Some cause
cause_in Memory = None

-- the next step, where no cause was found before
abbrev pub and_then : {A B : Type 0} → Result A TextCause → (A → Result B TextCause) → Result B TextCause
and_then (Ok a) step = step a
and_then (Err cause) step = Err cause
