-- What is told of a refusal by its cause (docs/SHOW.md, "why"): a sentence with the facts of its place.
use Rattle.std.specs.Prelude.{ℕ, Bool, List, [], unwrap_or}
use Rattle.masm_link.specs.declared.refusal.AsmCause.{AsmCause}
use Rattle.masm_link.specs.declared.refusal.AsmCause.TheVariants as causes
use Rattle.show_tokens.specs.Foreign.{unsupported_line}
use Rattle.show_tokens.specs.Forms.{parameter}
use Rattle.show_tokens.specs.Numbers.{number_line}
use Rattle.show_tokens.specs.Unnamed.{unnamed_line}
use Rattle.show_why.specs.Lines.{byte_at}
use Rattle.show_why.specs.Scenes.{last_header}
use Rattle.show_why.specs.Sentences.{back_line, byte_line, deep_line, duplicate_line, exports_line, kept_line, locals_line, not_exported_line, operations_line, syntax_line, unknown_line}
use Rattle.show_why.specs.Sights.{Sight, first_of, more_of}

-- the sentence of a cause; `given` says whether there is a kernel
abbrev pub fact_line : Bool → Bool → List ℕ → ℕ → ℕ → Sight → AsmCause → List ℕ
fact_line kernel given text line column sight causes.Lexical = byte_line (byte_at text line column)
fact_line kernel given text line column sight causes.KernelBody = kept_line (first_of sight)
fact_line kernel given text line column sight causes.Unsupported = unsupported_line kernel (first_of sight)
fact_line kernel given text line column sight causes.UnknownInstruction =
    unnamed_line kernel sight.procedures (unwrap_or sight.token []) (first_of sight)
fact_line kernel given text line column sight causes.Syntax = syntax_line kernel text sight sight.token
fact_line kernel given text line column sight causes.NumberRange = number_line sight.scene.context.consts (first_of sight) (more_of sight)
fact_line kernel given text line column sight causes.LocalsRange = locals_line (first_of sight) (more_of sight) sight.scene
fact_line kernel given text line column sight causes.RepeatRange = number_line sight.scene.context.consts (first_of sight) (more_of sight)
fact_line kernel given text line column sight causes.TooDeep = deep_line (first_of sight)
fact_line kernel given text line column sight causes.Duplicate = duplicate_line (first_of sight) (more_of sight) sight.scene
fact_line kernel given text line column sight causes.TooManyExports = exports_line
fact_line kernel given text line column sight causes.UnknownProcedure = unknown_line kernel (parameter (more_of sight))
fact_line kernel given text line column sight causes.NotInKernel = not_exported_line given (parameter (more_of sight))
fact_line kernel given text line column sight causes.Recursive = back_line (first_of sight) (more_of sight) (last_header sight.scene)
fact_line kernel given text line column sight causes.TooManyOps = operations_line
