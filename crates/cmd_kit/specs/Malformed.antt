-- How files that are not of their form are answered (docs/FORMATS.md).
use Rattle.std.specs.Prelude.{ℕ, List, [], ◌++◌, codes, decimal}
use Rattle.rpo_hash.specs.CauseText.{cause_text}
use Rattle.rpo_hash.specs.declared.params.ParamError.{ParamError}
use Rattle.run_chain.specs.Causes as link_cause
use Rattle.run_chain.specs.Lists.{LinkFault}
use Rattle.statement.specs.Causes.{text_of_cause}
use Rattle.statement.specs.declared.refusal.TextCause.{TextCause}
use Rattle.table_file.specs.Causes as file_cause
use Rattle.table_file.specs.declared.cause.FileCause.{FileCause}
use Rattle.table_file.specs.declared.cause.FileError.{FileError}
use Rattle.table_file.specs.declared.cause.FileError.TheVariants as file_error
use Rattle.table_file.specs.declared.cause.FileError.TheVariants.{Bad}
use Rattle.cmd_kit.specs.declared.status.Status.TheVariants as status
use Rattle.cmd_kit.specs.Steps.{End, stop}

abbrev pub malformed_line : List ℕ → ℕ → List ℕ → List ℕ
malformed_line name line cause = codes "malformed " ++ name ++ codes " line " ++ decimal line ++ codes " " ++ cause ++ codes "\n"

-- a file of parameters is of no good form
abbrev pub bad_params : List ℕ → ParamError → End
bad_params name e = stop status.Malformed (malformed_line name e.line (cause_text e.cause))

abbrev pub malformed_text_line : List ℕ → TextCause → List ℕ
malformed_text_line name cause = codes "malformed " ++ name ++ codes " " ++ text_of_cause cause ++ codes "\n"

-- a statement is of no good form
abbrev pub bad_statement : List ℕ → TextCause → End
bad_statement name cause = stop status.Malformed (malformed_text_line name cause)

abbrev pub malformed_table_line : List ℕ → ℕ → FileCause → List ℕ
malformed_table_line name offset cause =
    codes "malformed " ++ name ++ codes " offset " ++ decimal offset ++ codes " " ++ file_cause.text_of_cause cause ++ codes "\n"

-- A table file is of no good form. Want of memory is no fault of it.
abbrev pub bad_table : List ℕ → FileError → End
bad_table name (Bad offset cause) = stop status.Malformed (malformed_table_line name offset cause)
bad_table name file_error.Memory = stop status.Memory []

-- a JSON file of inputs is of no good form
abbrev pub bad_inputs : List ℕ → TextCause → End
bad_inputs name cause = stop status.Malformed (malformed_text_line name cause)

-- a list of links is of no good form
abbrev pub bad_list : List ℕ → LinkFault → End
bad_list name fault = stop status.Malformed (malformed_line name fault.line (link_cause.text_of_cause fault.cause))
