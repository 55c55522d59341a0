-- What judging a link of a chain answers.
use Rattle.std.specs.Prelude.{◌≡◌, ℕ, ◌+◌, List, ◌++◌, Option, Some}
use Rattle.block_tree.specs.declared.evidence.Evidence.{Evidence}
use Rattle.statement.specs.EvidenceText.{evidence_text}
use Rattle.statement.specs.Statements.{stated_of}
use Rattle.vm_state.specs.declared.statement.Statement.{Statement}
use Rattle.tree_merge.specs.Evidences.{IsEvidence}
use Rattle.air_kit.specs.declared.trace.Public.{Public}
use Rattle.cmd_check.specs.declared.judging.LinkFiles.{LinkFiles}
use Rattle.air_kit.specs.declared.trace.Trace.{Trace}
use Rattle.vm_io.specs.Shelf.{ShelfState}
use Rattle.cmd_kit.specs.ChainSteps.{ChainLink, claimed_steps, link_steps}
use Rattle.cmd_kit.specs.CheckEnds.{IsEvidenceFor}
use Rattle.cmd_kit.specs.Links.{link_line}
use Rattle.cmd_kit.specs.Outcomes.{Continues, EndsIn, Loads}
use Rattle.cmd_kit.specs.Steps.{Judged, Steps}
use Rattle.cmd_kit.specs.declared.outcome.Outcome.{Outcome}

-- the files of a link, as the code names them
abbrev pub link_from : LinkFiles → ChainLink
link_from link = record { table = link.table.now; statement = link.statement.now }

-- a statement and its trace, as the steps see them
abbrev pub judged_of : Statement → Trace → Judged
judged_of statement trace = record { claim = stated_of statement; trace = trace }

-- evidence of a trace was put behind a text, behind a line of this number
pub record HasEvidence (p : Public) (trace : Trace) (number : ℕ) (text longer : List ℕ) : Type 0 where
  pub evidence : Evidence
  pub is_evidence : IsEvidence p trace evidence
  pub is : longer ≡ text ++ link_line number ++ evidence_text evidence

-- evidence of a link, behind so many, was put behind a text
pub record TextGrew (constants : List ℕ) (before : ℕ) (judged : Judged) (text longer : List ℕ) : Type 0 where
  pub evidence : Evidence
  pub is_evidence : IsEvidenceFor constants judged.claim judged.trace evidence
  pub is : longer ≡ text ++ link_line (before + 1) ++ evidence_text evidence

-- what is claimed and a trace: the steps of a link go on with them, whatever is to come, and no file is read or written
abbrev pub GoesOn : List ℕ → ℕ → Option (List ℕ) → Judged → Type 0
GoesOn constants before left judged =
    (s : ShelfState) (next : Judged → Steps) → Continues (claimed_steps constants before left next judged.trace judged.claim) (next judged) s s

-- the steps of a link ended there, whatever was to come
abbrev pub EndsHere : List ℕ → ℕ → Option (List ℕ) → Judged → Outcome → Type 0
EndsHere constants before left judged end =
    (s : ShelfState) (next : Judged → Steps) → EndsIn (Some (claimed_steps constants before left next judged.trace judged.claim)) end s s

-- A link was accepted: its steps go on, with its evidence behind the text, and it left these outputs.
pub record LinkGoesOn (constants : List ℕ) (before : ℕ) (left : Option (List ℕ)) (link : ChainLink) (outputs text longer : List ℕ)
    (old new : ShelfState) : Type 0 where
  pub judged : Judged
  pub outputs_are : outputs ≡ judged.claim.outputs
  pub grew : TextGrew constants before judged text longer
  pub loads : Loads (link_steps constants before left link) judged old new
