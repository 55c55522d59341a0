-- The causes for which a token is refused, and their order.
use Rattle.std.specs.Prelude.{ℕ, Bool, nat_lt, List, codes, Option, Some, None}
use Rattle.masm_reading.specs.declared.refusal.InstrError.{InstrError}
use Rattle.masm_reading.specs.declared.refusal.InstrError.TheVariants as errors
use Rattle.masm_tree.specs.declared.refusal.Cause.{Cause}
use Rattle.masm_tree.specs.declared.refusal.Cause.TheVariants as causes
use Rattle.masm_tree.specs.declared.refusal.Stop.{Stop}
use Rattle.masm_tree.specs.declared.refusal.Stop.TheVariants as stops

-- the place of a cause in the order in which the causes of one token are tested
abbrev pub order : Cause → ℕ
order causes.KernelBody = 0
order causes.Unsupported = 1
order causes.UnknownInstruction = 2
order causes.Syntax = 3
order causes.NumberRange = 4
order causes.LocalsRange = 5
order causes.RepeatRange = 6
order causes.TooDeep = 7

-- whether the cause stands before Syntax
abbrev pub is_early : Cause → Bool
is_early cause = nat_lt (order cause) (order causes.Syntax)

-- a cause, as it is printed
abbrev pub text_of_cause : Cause → List ℕ
text_of_cause causes.KernelBody = codes "KernelBody"
text_of_cause causes.Unsupported = codes "Unsupported"
text_of_cause causes.UnknownInstruction = codes "UnknownInstruction"
text_of_cause causes.Syntax = codes "Syntax"
text_of_cause causes.NumberRange = codes "NumberRange"
text_of_cause causes.LocalsRange = codes "LocalsRange"
text_of_cause causes.RepeatRange = codes "RepeatRange"
text_of_cause causes.TooDeep = codes "TooDeep"

-- the cause that a refusal of an instruction is; a reading of a token never wants memory
abbrev pub cause_of : InstrError → Cause
cause_of errors.Unsupported = causes.Unsupported
cause_of errors.UnknownInstruction = causes.UnknownInstruction
cause_of errors.Syntax = causes.Syntax
cause_of errors.NumberRange = causes.NumberRange
cause_of errors.Memory = causes.Syntax

-- what ends a token's reading
abbrev pub stop_of : InstrError → Stop
stop_of errors.Unsupported = stops.Refused causes.Unsupported
stop_of errors.UnknownInstruction = stops.Refused causes.UnknownInstruction
stop_of errors.Syntax = stops.Refused causes.Syntax
stop_of errors.NumberRange = stops.Refused causes.NumberRange
stop_of errors.Memory = stops.Memory

-- what a stop says of the token: the cause of its refusal, if it is one
abbrev pub cause_in : Stop → Option Cause
cause_in (stops.Refused cause) = Some cause
cause_in stops.Memory = None
