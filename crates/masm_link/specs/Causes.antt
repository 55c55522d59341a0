-- Why a source is refused, as it is printed, and what the causes of the parser and of the linker are called here.
use Rattle.std.specs.Prelude.{ℕ, List, codes}
use Rattle.masm_link.specs.declared.refusal.AsmCause.{AsmCause}
use Rattle.masm_link.specs.declared.refusal.AsmCause.TheVariants as causes
use Rattle.masm_tree.specs.declared.refusal.Cause.{Cause}
use Rattle.masm_tree.specs.declared.refusal.Cause.TheVariants as parsing
use Rattle.masm_names.specs.declared.refusal.LinkCause.{LinkCause}
use Rattle.masm_names.specs.declared.refusal.LinkCause.TheVariants as linking

abbrev pub parse_cause : Cause → AsmCause
parse_cause parsing.KernelBody = causes.KernelBody
parse_cause parsing.Unsupported = causes.Unsupported
parse_cause parsing.UnknownInstruction = causes.UnknownInstruction
parse_cause parsing.Syntax = causes.Syntax
parse_cause parsing.NumberRange = causes.NumberRange
parse_cause parsing.LocalsRange = causes.LocalsRange
parse_cause parsing.RepeatRange = causes.RepeatRange
parse_cause parsing.TooDeep = causes.TooDeep

abbrev pub link_cause : LinkCause → AsmCause
link_cause linking.Duplicate = causes.Duplicate
link_cause linking.TooManyExports = causes.TooManyExports
link_cause linking.UnknownProcedure = causes.UnknownProcedure
link_cause linking.NotInKernel = causes.NotInKernel
link_cause linking.Recursive = causes.Recursive
link_cause linking.TooManyOps = causes.TooManyOps
link_cause linking.TooDeep = causes.TooDeep

abbrev pub text_of_cause : AsmCause → List ℕ
text_of_cause causes.Lexical = codes "Lexical"
text_of_cause causes.KernelBody = codes "KernelBody"
text_of_cause causes.Unsupported = codes "Unsupported"
text_of_cause causes.UnknownInstruction = codes "UnknownInstruction"
text_of_cause causes.Syntax = codes "Syntax"
text_of_cause causes.NumberRange = codes "NumberRange"
text_of_cause causes.LocalsRange = codes "LocalsRange"
text_of_cause causes.RepeatRange = codes "RepeatRange"
text_of_cause causes.TooDeep = codes "TooDeep"
text_of_cause causes.Duplicate = codes "Duplicate"
text_of_cause causes.TooManyExports = codes "TooManyExports"
text_of_cause causes.UnknownProcedure = codes "UnknownProcedure"
text_of_cause causes.NotInKernel = codes "NotInKernel"
text_of_cause causes.Recursive = codes "Recursive"
text_of_cause causes.TooManyOps = codes "TooManyOps"
