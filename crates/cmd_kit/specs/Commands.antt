-- The steps of each command, what it may end with, and what it may write.
use Rattle.std.specs.Prelude.{◌≡◌, ℕ, List, Option, Some, None}
use Rattle.cmd_kit.specs.declared.answer.Answer.{Answer}
use Rattle.cmd_kit.specs.Asked as asked
use Rattle.cmd_kit.specs.Asked.{Asked, nothing, hash, assemble, check, check_source, make, chain, runs, member}
use Rattle.cmd_kit.specs.HashSteps.{hash_steps}
use Rattle.cmd_kit.specs.AssembleSteps.{assemble_steps}
use Rattle.cmd_kit.specs.RunSteps.{run_steps}
use Rattle.cmd_kit.specs.CheckSteps.{check_steps}
use Rattle.cmd_kit.specs.CheckSourceSteps.{check_source_steps}
use Rattle.cmd_kit.specs.MakeSteps.{make_steps}
use Rattle.cmd_kit.specs.MemberSteps.{member_steps}
use Rattle.cmd_kit.specs.ChainSteps.{chain_steps}
use Rattle.cmd_kit.specs.RunsSteps.{runs_steps}
use Rattle.cmd_kit.specs.Steps.{End, stop, assembly, telling, telling_source, Right, exactly, tables_of, statement_of, evidence_for, source_evidence_for, chain_evidence, Question, checked, sourced, course, refusal, Finding, Steps, ends_with}
use Rattle.cmd_kit.specs.CheckEnds.{IsEvidenceText, IsVerdictFor, TellsEvidence}
use Rattle.cmd_kit.specs.CheckSourceEnds.{IsBuild, IsSourceEvidenceText, TellsSourceEvidence}
use Rattle.cmd_kit.specs.ChainEnds.{IsChainText}
use Rattle.cmd_kit.specs.AssembleEnds.{AnswersAssembly}
use Rattle.cmd_kit.specs.RunEnds.{IsCourse}
use Rattle.cmd_kit.specs.SourceEnds.{IsRefusalOf}
use Rattle.fill_files.specs.RunFiles.{IsTableFileOf, IsStatementFileOf}

-- The steps of each command; words of no command have none.
abbrev pub steps_of : Asked → Option Steps
steps_of nothing = None
steps_of (hash params numbers) = Some (hash_steps params numbers)
steps_of (assemble params source kernel) = Some (assemble_steps params source kernel)
steps_of (asked.run params source inputs outputs kernel limit) = Some (run_steps params source inputs outputs kernel limit)
steps_of (check params table statement evidence) = Some (check_steps params table statement evidence)
steps_of (check_source params table statement evidence source kernel) =
    Some (check_source_steps params table statement evidence source kernel)
steps_of (make params turns names) = Some (make_steps params turns names)
steps_of (chain params list evidence) = Some (chain_steps params list evidence)
steps_of (runs params list) = Some (runs_steps params list)
steps_of (member params table statement evidence depth) = Some (member_steps params table statement evidence depth)

-- what a command may end with
abbrev pub EndsAs : End → Answer → Type 0
EndsAs (stop s line) a = a ≡ ends_with s line
EndsAs (assembly constants source kernel) a = AnswersAssembly constants source kernel a
EndsAs (telling constants claim trace written) a = TellsEvidence constants claim trace written a
EndsAs (telling_source constants claim trace tree ran written) a = TellsSourceEvidence constants claim trace tree ran written a

-- what may be written
abbrev pub IsRight : Right → List ℕ → Type 0
IsRight (exactly bytes) written = written ≡ bytes
IsRight (tables_of constants kernel last log) written = IsTableFileOf constants kernel last log written
IsRight (statement_of claim) written = IsStatementFileOf claim written
IsRight (evidence_for constants claim trace) written = IsEvidenceText constants claim trace written
IsRight (source_evidence_for constants claim trace tree) written = IsSourceEvidenceText constants claim trace tree written
IsRight (chain_evidence constants judged) written = IsChainText constants judged written

-- what may be found
abbrev pub Finds : (question : Question) → Finding question → Type 0
Finds (checked constants claim trace) verdict = IsVerdictFor constants claim trace verdict
Finds (sourced constants source kernel) found = IsBuild constants source kernel found
Finds (course constants source kernel given limit) found = IsCourse constants source kernel given limit found
Finds (refusal source kernel) found = IsRefusalOf source kernel found
