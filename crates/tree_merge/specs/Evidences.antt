-- What the evidence of a trace says, under the permutation's constants and a statement (docs/FORMATS.md).
use Rattle.std.specs.Prelude.{◌≡◌, ℕ, suc, List, length}
use Rattle.vm_field.specs.Machine.{State, Stands, start}
use Rattle.rpo_hash.specs.Constants.{constants_of}
use Rattle.block_tree.specs.declared.evidence.Evidence.{Evidence}
use Rattle.block_tree.specs.declared.evidence.Evidence.TheVariants.{Run, Pair}
use Rattle.block_tree.specs.Trees.{Tree, tree_digest}
use Rattle.block_tree.specs.TreeView.{tree_of}
use Rattle.block_tree.specs.Execution.{Event, Done, execution}
use Rattle.air_kit.specs.declared.trace.Public.{Public}
use Rattle.air_kit.specs.declared.trace.Trace.{Trace}
use Rattle.air_kit.specs.Hashes.{computation_at}
use Rattle.air_kit.specs.RowStates.{tape_of}
use Rattle.tree_merge.specs.Pairs.{IsPair}

-- The tree has the statement's digest, and is done on the main table's tape, from the statement's inputs to its outputs, in as many
-- cycles as the main table has rows but the last one.
pub record IsRun (p : Public) (t : Trace) (cycles : ℕ) (tree : Tree) (tape : List ℕ) : Type 0 where
  pub rows : suc cycles ≡ length t.main
  pub digest : tree_digest (constants_of p.params) tree ≡ p.statement.digest
  pub tape_is : tape ≡ tape_of t.main
  pub state : State
  pub events : List Event
  pub done : execution (constants_of p.params) p.statement.kernel cycles tree (start p.statement.inputs tape) ≡ Done state events
  pub clock : state.core.clock ≡ cycles
  pub stands : Stands state p.statement.outputs

-- the hasher's table has two hashes of different inputs and one digest at these addresses
abbrev pub IsClash : Public → Trace → ℕ → ℕ → Type 0
IsClash p t first second = IsPair (constants_of p.params) (computation_at t.hasher) first second

abbrev pub IsEvidence : Public → Trace → Evidence → Type 0
IsEvidence p t (Run cycles tree tape) = IsRun p t cycles (tree_of tree) tape
IsEvidence p t (Pair first second) = IsClash p t first second
