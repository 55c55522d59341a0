-- Sources that are assembled or refused (docs/FORMATS.md).
use Rattle.std.specs.Prelude.{◌≡◌, ◌≢◌, ℕ, Bool, true, List, ◌++◌, codes, decimal, length, Option, Some, None, option_map, Result, Err}
use Rattle.vm_field.specs.Limits.{number_of_constants}
use Rattle.block_tree.specs.declared.program.Program.{Program}
use Rattle.masm_link.specs.declared.refusal.AsmCause.{AsmCause}
use Rattle.masm_link.specs.declared.refusal.AsmError.{AsmError}
use Rattle.masm_link.specs.declared.refusal.AsmError.TheVariants.{Bad, Memory}
use Rattle.masm_link.specs.Assembling.{Assembles}
use Rattle.masm_link.specs.Causes.{text_of_cause}
use Rattle.std_u64.specs.Libraries.{u64_library}
use Rattle.cmd_kit.specs.Steps.{SourceFile, SourceRefusal}

-- what a source, with the library of procedures on numbers of 64 bits, and its kernel are assembled to
abbrev pub AssemblesFiles : List ℕ → SourceFile → Option SourceFile → Result Program AsmError → Type 0
AssemblesFiles constants source kernel = Assembles constants u64_library source.text (option_map (λ k. k.text) kernel)

-- the name of the file in which a place lies
abbrev pub name_of_place : Bool → SourceFile → Option SourceFile → List ℕ
name_of_place true source (Some kernel) = kernel.name
name_of_place in_kernel source kernel = source.name

abbrev pub source_line : List ℕ → ℕ → ℕ → AsmCause → List ℕ
source_line name line column cause =
    codes "source " ++ name ++ codes " " ++ decimal line ++ codes " " ++ decimal column ++ codes " " ++ text_of_cause cause
    ++ codes "\n"

-- how a source and its kernel are refused, whatever the constants are; none where no constants have them refused
abbrev pub IsRefusalOf : SourceFile → Option SourceFile → Option SourceRefusal → Type 0
IsRefusalOf source kernel (Some r) =
    (constants : List ℕ) → length constants ≡ number_of_constants
    → AssemblesFiles constants source kernel (Err (Bad r.in_kernel r.line r.column r.cause))
IsRefusalOf source kernel None =
    (constants : List ℕ) → length constants ≡ number_of_constants → (e : AsmError) → e ≢ Memory → ¬ (AssemblesFiles constants source kernel (Err e))
