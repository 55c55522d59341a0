-- How the steps of a command begin: files that are read one after another, and what each says for the steps behind it.
use Rattle.std.specs.Prelude.{ℕ, List, Option, Some, None, Result, Ok, Err}
use Rattle.vm_field.specs.Limits.{most_source_bytes}
use Rattle.rpo_hash.specs.declared.params.ParamError.{ParamError}
use Rattle.rpo_hash.specs.ParamText.{parameters_of}
use Rattle.statement.specs.Inputs.{Given, inputs_of}
use Rattle.statement.specs.Statements.{Stated, statement_of}
use Rattle.statement.specs.declared.refusal.TextCause.{TextCause}
use Rattle.air_kit.specs.declared.trace.Trace.{Trace}
use Rattle.table_file.specs.Files.{trace_of}
use Rattle.table_file.specs.declared.cause.FileError.{FileError}
use Rattle.fill_files.specs.RunFiles.{most_table_bytes, most_statement_bytes}
use Rattle.cmd_kit.specs.Steps.{SourceFile, Steps, reading, ending}
use Rattle.cmd_kit.specs.Malformed.{bad_params, bad_inputs, bad_statement, bad_table}

-- the longest file of parameters
abbrev pub most_params_bytes : ℕ
most_params_bytes = 4096

abbrev pub most_inputs_bytes : ℕ
most_inputs_bytes = 33554432

-- what a file of parameters of this name reads as: the steps go on with the constants that it writes
abbrev pub with_params : List ℕ → (List ℕ → Steps) → Result (List ℕ) ParamError → Steps
with_params name next (Ok constants) = next constants
with_params name next (Err e) = ending (bad_params name e)

abbrev pub params_steps : List ℕ → (List ℕ → Steps) → Steps
params_steps name next = reading name most_params_bytes (λ bytes. with_params name next (parameters_of bytes))

-- a source of this name is read
abbrev pub source_steps : List ℕ → (SourceFile → Steps) → Steps
source_steps name next = reading name most_source_bytes (λ text. next (record { name = name; text = text }))

-- so is a kernel, where the words name one
abbrev pub kernel_steps : Option (List ℕ) → (Option SourceFile → Steps) → Steps
kernel_steps None next = next None
kernel_steps (Some name) next = source_steps name (λ kernel. next (Some kernel))

-- what a file of inputs of this name reads as
abbrev pub with_inputs : List ℕ → (Given → Steps) → Result Given TextCause → Steps
with_inputs name next (Ok given) = next given
with_inputs name next (Err cause) = ending (bad_inputs name cause)

abbrev pub inputs_steps : List ℕ → (Given → Steps) → Steps
inputs_steps name next = reading name most_inputs_bytes (λ bytes. with_inputs name next (inputs_of bytes))

-- what a table file of this name reads as
abbrev pub with_trace : List ℕ → (Trace → Steps) → Result Trace FileError → Steps
with_trace name next (Ok trace) = next trace
with_trace name next (Err e) = ending (bad_table name e)

abbrev pub trace_steps : List ℕ → (Trace → Steps) → Steps
trace_steps name next = reading name most_table_bytes (λ bytes. with_trace name next (trace_of bytes))

-- what a statement of this name reads as
abbrev pub with_statement : List ℕ → (Stated → Steps) → Result Stated TextCause → Steps
with_statement name next (Ok claim) = next claim
with_statement name next (Err cause) = ending (bad_statement name cause)

abbrev pub statement_steps : List ℕ → (Stated → Steps) → Steps
statement_steps name next = reading name most_statement_bytes (λ bytes. with_statement name next (statement_of bytes))
