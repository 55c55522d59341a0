-- What stands where `member` answers `Ok` (docs/PROOF.md).
use Rattle.std.specs.Prelude.{◌≡◌, ℕ, List, Some}
use Rattle.std.specs.FinMap.{insert}
use Rattle.vm_field.specs.Machine.{filled_up}
use Rattle.block_tree.specs.Trees.{Tree}
use Rattle.block_tree.specs.TreeView.{tree_of}
use Rattle.merkle_lib.specs.Programs.{walk_tree}
use Rattle.merkle_lib.specs.Walks.{IsPath}
use Rattle.merkle_lib.specs.declared.paths.Step.{Step}
use Rattle.source_check.specs.SourceText.{source_evidence_text}
use Rattle.source_check.specs.declared.evidence.SourceEvidence.{SourceEvidence}
use Rattle.source_check.specs.declared.evidence.SourceEvidence.TheVariants.{Ran, ClashFile, ClashNode}
use Rattle.vm_io.specs.Shelf.{Files, ShelfState}
use Rattle.vm_io.specs.Sink.{SinkState, with_piece}
use Rattle.cmd_kit.specs.declared.status.Status.TheVariants as status
use Rattle.cmd_kit.specs.Asked.{member, asked}
use Rattle.cmd_kit.specs.CheckSourceEnds.{IsSourceEvidenceFor, accepted_source_line}
use Rattle.cmd_kit.specs.Completeness.{IsGoodMember}
use Rattle.cmd_kit.specs.MemberSteps.{member_line}
use Rattle.cmd_kit.specs.Serving.{Serves}

-- The tree is the program that walks a path of so many steps, and the tape is such a path: from the leaf, the first four cells of the stack
-- that the inputs begin with, to the root, the next four.
pub record IsWalk (constants : List ℕ) (depth : ℕ) (inputs : List ℕ) (tree : Tree) (tape : List ℕ) : Type 0 where
  pub own_tree : tree ≡ walk_tree depth
  pub path : List Step
  pub is_path : IsPath constants depth (filled_up inputs) tape path

-- if the evidence is a run, it walks such a path
abbrev pub HasPath : List ℕ → ℕ → List ℕ → SourceEvidence → Type 0
HasPath constants depth inputs (Ran cycles tree tape) = IsWalk constants depth inputs (tree_of tree) tape
HasPath constants depth inputs (ClashFile first second) = Unit {0}
HasPath constants depth inputs (ClashNode address node) = Unit {0}

-- The table file is accepted, and the statement has the digest of the program that walks a path of so many steps. Evidence for it stands
-- under the output's name, beside the files of m, and the line that tells of it was printed. The tape of a run is a path from the leaf to the
-- root of that line.
pub record MemberStands (params table statement output : List ℕ) (depth : ℕ) (m : Files) (new : ShelfState) (before now : SinkState)
    : Type 0 where
  pub good : IsGoodMember m params table statement depth
  pub evidence : SourceEvidence
  pub is_evidence : IsSourceEvidenceFor good.constants good.claim good.trace (walk_tree depth) evidence
  pub path : HasPath good.constants depth good.claim.inputs evidence
  pub files : new.files ≡ Some (insert m output (source_evidence_text evidence))
  pub taken : now ≡ record before { taken = with_piece before.taken (accepted_source_line (member_line good.claim) evidence) }

-- Where `member` answers `Ok`, its files are accepted, and what it wrote is evidence for the program, and of a path where it is a run.
abbrev pub MemberHasPath : Type 0
MemberHasPath =
    (words : List (List ℕ)) (old new : ShelfState) (before now : SinkState) (params table statement output : List ℕ) (depth : ℕ) (m : Files)
    → Serves words status.Ok old new before now → asked words ≡ member params table statement output depth → old.files ≡ Some m
    → MemberStands params table statement output depth m new before now
