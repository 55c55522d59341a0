-- From what is said of a source to the end of its command.
use Rattle.std.proofs.Common.{ℕ, Bool, List, Option, Ok, Err, refl}
use Rattle.block_tree.specs.declared.program.Program.{Program}
use Rattle.masm_link.specs.declared.refusal.AsmCause.{AsmCause}
use Rattle.masm_link.specs.declared.refusal.AsmError.TheVariants.{Bad}
use Rattle.cmd_kit.specs.declared.status.Status.TheVariants as status
use Rattle.cmd_kit.specs.declared.outcome.Outcome.{Outcome}
use Rattle.cmd_kit.specs.Steps.{SourceFile, assembly}
use Rattle.cmd_kit.specs.Outcomes.{ComesTo, SaysStatus}
use Rattle.cmd_kit.specs.SourceEnds.{AssemblesFiles, name_of_place, source_line}
use Rattle.cmd_kit.specs.AssembleEnds.{program_lines, assembled, refused}
use Rattle.cmd_kit.proofs.ServingLemmas.{says_ends}

-- a program that is printed
pub assembly_ends : (constants : List ℕ) (source : SourceFile) (kernel : Option SourceFile) (program : Program) (o : Outcome)
    → AssemblesFiles constants source kernel (Ok program) → SaysStatus o status.Ok (program_lines constants program)
    → ComesTo (assembly constants source kernel) o
assembly_ends constants source kernel program o is says =
    says_ends (assembly constants source kernel) status.Ok (program_lines constants program) o refl (assembled program is) says

-- a source that is refused
pub refused_assembly_ends : (constants : List ℕ) (source : SourceFile) (kernel : Option SourceFile)
    (in_kernel : Bool) (line column : ℕ) (cause : AsmCause) (o : Outcome)
    → AssemblesFiles constants source kernel (Err (Bad in_kernel line column cause))
    → SaysStatus o status.Source (source_line (name_of_place in_kernel source kernel) line column cause) → ComesTo (assembly constants source kernel) o
refused_assembly_ends constants source kernel in_kernel line column cause o is says =
    says_ends (assembly constants source kernel) status.Source (source_line (name_of_place in_kernel source kernel) line column cause) o refl
    (refused in_kernel line column cause is) says
