-- What the evidence of a trace says of a tree that is known whole, under the permutation's constants and a statement (docs/FORMATS.md).
use Rattle.std.specs.Prelude.{◌≡◌, ◌≢◌, ℕ, List, Some}
use Rattle.vm_field.specs.Sponge.{HashInput, digest_of_input}
use Rattle.rpo_hash.specs.Constants.{constants_of}
use Rattle.rpo_hash.specs.declared.params.Params.{Params}
use Rattle.vm_state.specs.declared.statement.Statement.{Statement}
use Rattle.block_tree.specs.Trees.{Tree, Refines, tree_digest}
use Rattle.block_tree.specs.TreeView.{tree_of}
use Rattle.air_kit.specs.declared.trace.Public.{Public}
use Rattle.air_kit.specs.declared.trace.Trace.{Trace}
use Rattle.air_kit.specs.Hashes.{computation_at}
use Rattle.tree_merge.specs.Evidences.{IsRun, IsClash}
use Rattle.source_check.specs.SourceNodes.{node_input}
use Rattle.source_check.specs.declared.evidence.SourceEvidence.{SourceEvidence}
use Rattle.source_check.specs.declared.evidence.SourceEvidence.TheVariants.{Ran, ClashFile, ClashNode}
use Rattle.source_check.specs.declared.evidence.SourceStop.{SourceStop}
use Rattle.source_check.specs.declared.evidence.SourceStop.TheVariants.{OtherDigest, Memory}

-- what a trace was checked against
abbrev pub public_of : Params → Statement → Public
public_of params statement = record { params = params; statement = statement }

-- the tree of the run refines this one
pub record IsSourceRun (p : Public) (t : Trace) (source : Tree) (cycles : ℕ) (tree : Tree) (tape : List ℕ) : Type 0 where
  pub refines : Refines (constants_of p.params) tree source
  pub run : IsRun p t cycles tree tape

-- the hash at this address and the block of this number have different inputs and one digest
pub record IsNodeClash (constants : List ℕ) (t : Trace) (source : Tree) (address node : ℕ) : Type 0 where
  pub one : HashInput
  pub other : HashInput
  pub one_is : computation_at t.hasher address ≡ Some one
  pub other_is : node_input constants source node ≡ Some other
  pub differ : one ≢ other
  pub digest : digest_of_input constants one ≡ digest_of_input constants other

abbrev pub IsSourceEvidence : Public → Trace → Tree → SourceEvidence → Type 0
IsSourceEvidence p t source (Ran cycles tree tape) = IsSourceRun p t source cycles (tree_of tree) tape
IsSourceEvidence p t source (ClashFile first second) = IsClash p t first second
IsSourceEvidence p t source (ClashNode address node) = IsNodeClash (constants_of p.params) t source address node

-- the statement's digest is another one than the tree's
pub record IsOtherDigest (p : Public) (source : Tree) (stated own : List ℕ) : Type 0 where
  pub stated_is : stated ≡ p.statement.digest
  pub own_is : own ≡ tree_digest (constants_of p.params) source
  pub differ : stated ≢ own

abbrev pub IsSourceStop : Public → Tree → SourceStop → Type 0
IsSourceStop p source (OtherDigest file own) = IsOtherDigest p source file own
IsSourceStop p source Memory = Unit {0}
