-- The text that is written of evidence for a source (docs/FORMATS.md, "Evidence for a source"): lines, each ended by a line feed.
use Rattle.std.specs.Prelude.{ℕ, List, ◌++◌, codes, decimal}
use Rattle.block_tree.specs.TreeView.{tree_of}
use Rattle.statement.specs.EvidenceText.{line, run_text}
use Rattle.source_check.specs.declared.evidence.SourceEvidence.{SourceEvidence}
use Rattle.source_check.specs.declared.evidence.SourceEvidence.TheVariants.{Ran, ClashFile, ClashNode}

abbrev pub clash_file_text : ℕ → ℕ → List ℕ
clash_file_text first second = line (codes "clash file " ++ decimal first ++ codes " file " ++ decimal second)

abbrev pub clash_node_text : ℕ → ℕ → List ℕ
clash_node_text address node = line (codes "clash file " ++ decimal address ++ codes " node " ++ decimal node)

abbrev pub source_evidence_text : SourceEvidence → List ℕ
source_evidence_text (Ran cycles tree tape) = line (codes "ran") ++ run_text cycles tape (tree_of tree)
source_evidence_text (ClashFile first second) = clash_file_text first second
source_evidence_text (ClashNode address node) = clash_node_text address node
