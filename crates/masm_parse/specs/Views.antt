-- The parser and its configurations as the definitions see them.
use Rattle.std.specs.Prelude.{Bool, true, false, Option, Some, None, List, map, reverse, Result}
use Rattle.answers.specs.Gives.{Gives}
use Rattle.masm_tree.specs.declared.refusal.Cause.{Cause}
use Rattle.masm_tree.specs.declared.refusal.Stop.{Stop}
use Rattle.masm_parse.specs.declared.refusal.ParseError.{ParseError}
use Rattle.masm_parse.specs.declared.refusal.ParseError.TheVariants.{Bad, Memory}
use Rattle.masm_parse.specs.declared.configuration.OpenConstruct.{OpenConstruct}
use Rattle.masm_parse.specs.declared.configuration.OpenConstruct.TheVariants as opens
use Rattle.masm_parse.specs.declared.configuration.Configuration as code
use Rattle.masm_parse.specs.declared.configuration.Configuration.TheVariants as configurations
use Rattle.masm_parse.specs.declared.parser.Parser.{Parser}
use Rattle.masm_tree.specs.Causes.{cause_in}
use Rattle.masm_tree.specs.Views.{body_of, procedure_of}
use Rattle.masm_parse.specs.Machine.{OpenStatement, In_if, In_else, In_while, In_repeat, Configuration, Top, Inside, Behind, Parse}

abbrev pub open_view : OpenConstruct → OpenStatement
open_view (opens.If at before) = In_if at (body_of before.items)
open_view (opens.Else at before first) = In_else at (body_of before.items) (body_of first.items)
open_view (opens.While at before) = In_while at (body_of before.items)
open_view (opens.Repeat at times before) = In_repeat at times (body_of before.items)

unfoldable pub opens_view : List OpenConstruct → List OpenStatement
opens_view fs = map open_view (reverse fs)

abbrev pub configuration_view : code.Configuration → Configuration
configuration_view (configurations.Top procs) = Top (map procedure_of procs.items)
configuration_view (configurations.Inside procs header fs body) =
    Inside (map procedure_of procs.items) header (opens_view fs.items) (body_of body.items)
configuration_view (configurations.Behind procs main) = Behind (map procedure_of procs.items) (procedure_of main)

abbrev pub parser_view : Parser → Parse
parser_view p = record { context = record { consts = p.consts; locals = p.locals }; configuration = configuration_view p.configuration }

-- what stands behind a token, if the token fits
abbrev pub kept : {A : Type 0} → Bool → A → Option A
kept true now = Some now
kept false now = None

-- a step answers with the parser that it leaves, or with the cause for which it leaves none
abbrev pub GivesStep : Result (Unit {0}) Stop → Parse → Result Parse Cause → Type 0
GivesStep answer now defined = Gives (λ done. now) cause_in answer defined

-- what an error says of the source: its refusal, if it is one
abbrev pub refusal_in : ParseError → Option ParseError
refusal_in (Bad line column cause) = Some (Bad line column cause)
refusal_in Memory = None
