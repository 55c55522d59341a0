-- What stands where `check --source` answers `Ok` (docs/PROOF.md).
use Rattle.std.specs.Prelude.{◌≡◌, ℕ, List, Option, Some}
use Rattle.std.specs.FinMap.{insert}
use Rattle.block_tree.specs.Trees.{Tree}
use Rattle.block_tree.specs.TreeView.{tree_of}
use Rattle.source_check.specs.SourceLaws.{HasNoDyn}
use Rattle.source_check.specs.SourceText.{source_evidence_text}
use Rattle.source_check.specs.declared.evidence.SourceEvidence.{SourceEvidence}
use Rattle.source_check.specs.declared.evidence.SourceEvidence.TheVariants.{Ran, ClashFile, ClashNode}
use Rattle.vm_io.specs.Shelf.{Files, ShelfState}
use Rattle.vm_io.specs.Sink.{SinkState, with_piece}
use Rattle.cmd_kit.specs.declared.status.Status.TheVariants as status
use Rattle.cmd_kit.specs.Asked.{check_source, asked}
use Rattle.cmd_kit.specs.CheckSourceEnds.{IsSourceEvidenceFor, accepted_source_line, ran_line}
use Rattle.cmd_kit.specs.Completeness.{IsGoodSourceCheck}
use Rattle.cmd_kit.specs.Serving.{Serves}

-- if the evidence is a run, its tree is this one
abbrev pub RanTree : Tree → SourceEvidence → Type 0
RanTree source (Ran cycles tree tape) = tree_of tree ≡ source
RanTree source (ClashFile first second) = Unit {0}
RanTree source (ClashNode address node) = Unit {0}

-- The table file is accepted, and the source has a program of the statement's digest. Evidence for it stands under the output's name,
-- beside the files of m, and the line that tells of it was printed. A run is one of the program's own tree, where no block of it is
-- dynamic.
pub record SourceStands (params table statement output source : List ℕ) (kernel : Option (List ℕ)) (m : Files) (new : ShelfState)
    (before now : SinkState) : Type 0 where
  pub good : IsGoodSourceCheck m params table statement source kernel
  pub evidence : SourceEvidence
  pub is_evidence : IsSourceEvidenceFor good.constants good.claim good.trace (tree_of good.program.tree) evidence
  pub own_tree : HasNoDyn (tree_of good.program.tree) → RanTree (tree_of good.program.tree) evidence
  pub files : new.files ≡ Some (insert m output (source_evidence_text evidence))
  pub taken : now ≡ record before { taken = with_piece before.taken (accepted_source_line ran_line evidence) }

-- Where `check --source` answers `Ok`, its files are accepted, and what it wrote is evidence for the source.
abbrev pub AcceptedSourceRan : Type 0
AcceptedSourceRan =
    (words : List (List ℕ)) (old new : ShelfState) (before now : SinkState) (params table statement output source : List ℕ)
    (kernel : Option (List ℕ)) (m : Files)
    → Serves words status.Ok old new before now → asked words ≡ check_source params table statement output source kernel → old.files ≡ Some m
    → SourceStands params table statement output source kernel m new before now
