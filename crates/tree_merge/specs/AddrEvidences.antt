-- Evidence of a trace with the addresses of its blocks' hashes, under the permutation's constants and a statement.
use Rattle.std.specs.Prelude.{ℕ, List}
use Rattle.rpo_hash.specs.Constants.{constants_of}
use Rattle.air_kit.specs.declared.trace.Public.{Public}
use Rattle.air_kit.specs.declared.trace.Trace.{Trace}
use Rattle.air_kit.specs.Hashes.{computation_at}
use Rattle.tree_merge.specs.AddrView.{placed_of}
use Rattle.tree_merge.specs.Evidences.{IsRun, IsClash}
use Rattle.tree_merge.specs.Merging.{Good}
use Rattle.tree_merge.specs.Placed.{PlacedTree, plain}
use Rattle.tree_merge.specs.declared.evidence.AddrEvidence.{AddrEvidence}
use Rattle.tree_merge.specs.declared.evidence.AddrEvidence.TheVariants.{Run, Pair}

-- a run of this tree, whose blocks are hashed in the trace at these addresses
pub record IsAddrRun (p : Public) (t : Trace) (cycles : ℕ) (tree : PlacedTree) (tape : List ℕ) : Type 0 where
  pub run : IsRun p t cycles (plain tree) tape
  pub good : Good (constants_of p.params) (computation_at t.hasher) tree

abbrev pub IsAddrEvidence : Public → Trace → AddrEvidence → Type 0
IsAddrEvidence p t (Run cycles tree tape) = IsAddrRun p t cycles (placed_of tree) tape
IsAddrEvidence p t (Pair first second) = IsClash p t first second
