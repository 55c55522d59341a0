-- What `chain` writes and tells (docs/FORMATS.md).
use Rattle.std.specs.Prelude.{◌≡◌, ℕ, ◌+◌, List, [], ◌∷◌, ◌++◌, codes, decimal}
use Rattle.block_tree.specs.declared.evidence.Evidence.{Evidence}
use Rattle.statement.specs.EvidenceText.{evidence_text}
use Rattle.cmd_kit.specs.CheckEnds.{IsEvidenceFor}
use Rattle.cmd_kit.specs.Links.{link_line}
use Rattle.cmd_kit.specs.Steps.{Judged}

-- evidence of each link, in order, under these constants
abbrev pub AreEvidence : List ℕ → List Judged → List Evidence → Type 0
AreEvidence constants [] [] = Unit {0}
AreEvidence constants (link ∷ links) (evidence ∷ later) = IsEvidenceFor constants link.claim link.trace evidence × AreEvidence constants links later
AreEvidence constants [] (evidence ∷ later) = ⊥
AreEvidence constants (link ∷ links) [] = ⊥

-- the text of evidence of the links behind so many: for each its number, and the text of its evidence
abbrev pub chain_text : ℕ → List Evidence → List ℕ
chain_text before [] = []
chain_text before (evidence ∷ later) = link_line (before + 1) ++ evidence_text evidence ++ chain_text (before + 1) later

-- the text of such evidence
pub record IsChainText (constants : List ℕ) (judged : List Judged) (bytes : List ℕ) : Type 0 where
  pub evidence : List Evidence
  pub are_evidence : AreEvidence constants judged evidence
  pub text : bytes ≡ chain_text 0 evidence

abbrev pub accepted_links_line : ℕ → List ℕ
accepted_links_line number = codes "accepted links " ++ decimal number ++ codes "\n"
