-- Why a source is refused once it is read, and the order of the causes at one place.
use Rattle.std.specs.Prelude.{ℕ, List, codes}
use Rattle.masm_names.specs.declared.refusal.LinkCause.{LinkCause}
use Rattle.masm_names.specs.declared.refusal.LinkCause.TheVariants as causes

abbrev pub order : LinkCause → ℕ
order causes.Duplicate = 0
order causes.TooManyExports = 1
order causes.UnknownProcedure = 2
order causes.NotInKernel = 3
order causes.Recursive = 4
order causes.TooManyOps = 5
order causes.TooDeep = 6

-- a cause, as it is printed
abbrev pub text_of_cause : LinkCause → List ℕ
text_of_cause causes.Duplicate = codes "Duplicate"
text_of_cause causes.TooManyExports = codes "TooManyExports"
text_of_cause causes.UnknownProcedure = codes "UnknownProcedure"
text_of_cause causes.NotInKernel = codes "NotInKernel"
text_of_cause causes.Recursive = codes "Recursive"
text_of_cause causes.TooManyOps = codes "TooManyOps"
text_of_cause causes.TooDeep = codes "TooDeep"
