-- What `check` finds of a trace, what it writes, and its ends (docs/FORMATS.md).
use Rattle.std.specs.Prelude.{◌≡◌, ℕ, List, ◌∷◌, ◌++◌, codes, decimal}
use Rattle.rpo_hash.specs.Constants.{constants_of}
use Rattle.block_tree.specs.declared.evidence.Evidence.{Evidence}
use Rattle.block_tree.specs.declared.evidence.Evidence.TheVariants.{Run, Pair}
use Rattle.statement.specs.Statements.{Stated, stated_of}
use Rattle.statement.specs.EvidenceText.{evidence_text}
use Rattle.air_kit.specs.Acceptance.{IsAccepted, IsBusRefusal, IsFirstFault}
use Rattle.air_kit.specs.Traces as traces
use Rattle.air_kit.specs.declared.trace.Public.{Public}
use Rattle.air_kit.specs.declared.trace.Trace.{Trace}
use Rattle.checker.specs.declared.refusal.Refused.{Refused}
use Rattle.checker.specs.declared.refusal.Refused.TheVariants as why
use Rattle.tree_merge.specs.Evidences.{IsEvidence}
use Rattle.cmd_kit.specs.RefusalLines.{refused_line}
use Rattle.cmd_kit.specs.declared.status.Status.TheVariants as status
use Rattle.cmd_kit.specs.declared.answer.Answer.{Answer}
use Rattle.cmd_kit.specs.Steps.{End, stop, Verdict, accepted, refused, ends_with}

-- what a trace is checked against: these constants, and a statement that claims this
pub record IsPublic (constants : List ℕ) (claim : Stated) (p : Public) : Type 0 where
  pub params : constants_of p.params ≡ constants
  pub statement : stated_of p.statement ≡ claim

-- why a trace is refused: its first entry that is not 0; where there is none, the first bus that is apart, with the least tuple
abbrev pub IsWhy : Public → Trace → Refused → Type 0
IsWhy p trace (why.Fault fault) = IsFirstFault (traces.claim_of p trace) trace fault
IsWhy p trace (why.Bus bus tuple asked given) = IsBusRefusal p trace bus tuple asked given
IsWhy p trace why.Memory = ⊥

abbrev pub IsVerdictOf : Public → Trace → Verdict → Type 0
IsVerdictOf p trace accepted = IsAccepted p trace
IsVerdictOf p trace (refused r) = IsWhy p trace r

-- what is found of a trace, under these constants, for what is claimed
pub record IsVerdictFor (constants : List ℕ) (claim : Stated) (trace : Trace) (verdict : Verdict) : Type 0 where
  pub against : Public
  pub is_public : IsPublic constants claim against
  pub found : IsVerdictOf against trace verdict

-- the evidence is that of the trace, under these constants, of what is claimed
pub record IsEvidenceFor (constants : List ℕ) (claim : Stated) (trace : Trace) (evidence : Evidence) : Type 0 where
  pub against : Public
  pub is_public : IsPublic constants claim against
  pub is_evidence : IsEvidence against trace evidence

-- the text of such evidence
pub record IsEvidenceText (constants : List ℕ) (claim : Stated) (trace : Trace) (bytes : List ℕ) : Type 0 where
  pub evidence : Evidence
  pub is_evidence : IsEvidenceFor constants claim trace evidence
  pub text : bytes ≡ evidence_text evidence

abbrev pub accepted_line : Evidence → List ℕ
accepted_line (Run cycles tree tape) = codes "accepted run\n"
accepted_line (Pair first second) = codes "accepted pair " ++ decimal first ++ 32 ∷ decimal second ++ codes "\n"

-- it is told which evidence this is the text of
pub record TellsEvidence (constants : List ℕ) (claim : Stated) (trace : Trace) (written : List ℕ) (a : Answer) : Type 0 where
  pub evidence : Evidence
  pub is_evidence : IsEvidenceFor constants claim trace evidence
  pub text : written ≡ evidence_text evidence
  pub is : a ≡ ends_with status.Ok (accepted_line evidence)

abbrev pub refusal : Refused → End
refusal r = stop status.Refused (refused_line r)
