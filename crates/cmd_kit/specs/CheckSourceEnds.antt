-- What `check --source` finds of a source, what it writes, and its ends (docs/FORMATS.md). What it writes and tells is said for any tree.
use Rattle.std.specs.Prelude.{◌≡◌, ℕ, Bool, List, ◌++◌, codes, Option, Ok, Err}
use Rattle.vm_field.specs.WordText.{word_hex}
use Rattle.block_tree.specs.Trees.{Tree}
use Rattle.block_tree.specs.declared.program.Program.{Program}
use Rattle.masm_link.specs.declared.refusal.AsmCause.{AsmCause}
use Rattle.masm_link.specs.declared.refusal.AsmError.TheVariants.{Bad}
use Rattle.source_check.specs.SourceEvidences.{IsSourceEvidence}
use Rattle.source_check.specs.SourceText.{clash_file_text, clash_node_text, source_evidence_text}
use Rattle.source_check.specs.declared.evidence.SourceEvidence.{SourceEvidence}
use Rattle.source_check.specs.declared.evidence.SourceEvidence.TheVariants.{Ran, ClashFile, ClashNode}
use Rattle.statement.specs.Statements.{Stated}
use Rattle.air_kit.specs.declared.trace.Public.{Public}
use Rattle.air_kit.specs.declared.trace.Trace.{Trace}
use Rattle.cmd_kit.specs.CheckEnds.{IsPublic}
use Rattle.cmd_kit.specs.declared.status.Status.TheVariants as status
use Rattle.cmd_kit.specs.declared.answer.Answer.{Answer}
use Rattle.cmd_kit.specs.Steps.{SourceFile, Build, built, unbuilt, ends_with}
use Rattle.cmd_kit.specs.SourceEnds.{AssemblesFiles, name_of_place, source_line}

-- what a source comes to: its program, or the answer to its first refusal
pub data IsBuild (constants : List ℕ) (source : SourceFile) (kernel : Option SourceFile) : Build → Type 0 where
  assembled : (program : Program) → AssemblesFiles constants source kernel (Ok program) → IsBuild constants source kernel (built program)
  refused : (in_kernel : Bool) (line column : ℕ) (cause : AsmCause) → AssemblesFiles constants source kernel (Err (Bad in_kernel line column cause))
      → IsBuild constants source kernel
      (unbuilt (ends_with status.Source (source_line (name_of_place in_kernel source kernel) line column cause)))

-- the evidence is that of the trace for this tree, under these constants, of what is claimed
pub record IsSourceEvidenceFor (constants : List ℕ) (claim : Stated) (trace : Trace) (tree : Tree) (evidence : SourceEvidence) : Type 0 where
  pub against : Public
  pub is_public : IsPublic constants claim against
  pub is_evidence : IsSourceEvidence against trace tree evidence

-- the text of such evidence
pub record IsSourceEvidenceText (constants : List ℕ) (claim : Stated) (trace : Trace) (tree : Tree) (bytes : List ℕ) : Type 0 where
  pub evidence : SourceEvidence
  pub is_evidence : IsSourceEvidenceFor constants claim trace tree evidence
  pub text : bytes ≡ source_evidence_text evidence

-- the line that `check --source` tells of a run
abbrev pub ran_line : List ℕ
ran_line = codes "accepted ran\n"

-- the line that is told of evidence, where `ran` is that of a run
abbrev pub accepted_source_line : List ℕ → SourceEvidence → List ℕ
accepted_source_line ran (Ran cycles tree tape) = ran
accepted_source_line ran (ClashFile first second) = codes "accepted " ++ clash_file_text first second
accepted_source_line ran (ClashNode address node) = codes "accepted " ++ clash_node_text address node

-- it is told which evidence this is the text of
pub record TellsSourceEvidence (constants : List ℕ) (claim : Stated) (trace : Trace) (tree : Tree) (ran written : List ℕ) (a : Answer)
    : Type 0 where
  pub evidence : SourceEvidence
  pub is_evidence : IsSourceEvidenceFor constants claim trace tree evidence
  pub text : written ≡ source_evidence_text evidence
  pub is : a ≡ ends_with status.Ok (accepted_source_line ran evidence)

-- the digest of the statement, and the program's
abbrev pub other_program_line : List ℕ → List ℕ → List ℕ
other_program_line stated own = codes "other program " ++ word_hex stated ++ codes " " ++ word_hex own ++ codes "\n"
