-- The ends of `assemble` (docs/FORMATS.md).
use Rattle.std.specs.Prelude.{ℕ, Bool, List, ◌++◌, codes, Option, Ok, Err}
use Rattle.std.specs.List.{flat_map}
use Rattle.vm_field.specs.WordText.{word_hex}
use Rattle.block_tree.specs.declared.exports.Export.{Export}
use Rattle.block_tree.specs.declared.program.Program.{Program}
use Rattle.block_tree.specs.Trees.{tree_digest}
use Rattle.block_tree.specs.TreeView.{tree_of}
use Rattle.masm_link.specs.declared.refusal.AsmCause.{AsmCause}
use Rattle.masm_link.specs.declared.refusal.AsmError.TheVariants.{Bad}
use Rattle.cmd_kit.specs.declared.status.Status.TheVariants as status
use Rattle.cmd_kit.specs.declared.answer.Answer.{Answer}
use Rattle.cmd_kit.specs.Steps.{SourceFile, ends_with}
use Rattle.cmd_kit.specs.HashEnds.{digest_line}
use Rattle.cmd_kit.specs.SourceEnds.{AssemblesFiles, name_of_place, source_line}

abbrev pub export_line : Export → List ℕ
export_line e = codes "kernel " ++ e.name ++ codes " " ++ word_hex e.digest ++ codes "\n"

-- the program's digest, and then the exports in their order
abbrev pub program_lines : List ℕ → Program → List ℕ
program_lines constants program = digest_line (tree_digest constants (tree_of program.tree)) ++ flat_map export_line program.exports

-- The program is printed, or the place of the first refusal.
pub data AnswersAssembly (constants : List ℕ) (source : SourceFile) (kernel : Option SourceFile) : Answer → Type 0 where
  assembled : (program : Program) → AssemblesFiles constants source kernel (Ok program)
      → AnswersAssembly constants source kernel (ends_with status.Ok (program_lines constants program))
  refused : (in_kernel : Bool) (line column : ℕ) (cause : AsmCause) → AssemblesFiles constants source kernel (Err (Bad in_kernel line column cause))
      → AnswersAssembly constants source kernel (ends_with status.Source (source_line (name_of_place in_kernel source kernel) line column cause))
