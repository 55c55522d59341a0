-- What a walk along the rows rests on, and what it finds.
use Rattle.std.specs.Prelude.{◌≡◌, ℕ, suc, ◌≤◌, List, ◌++◌, drop, length}
use Rattle.vm_ops.specs.declared.op.Op.{Op}
use Rattle.vm_ops.specs.declared.op.Op.TheVariants as ops
use Rattle.rpo_hash.specs.Constants.{constants_of}
use Rattle.air_kit.specs.declared.trace.Public.{Public}
use Rattle.air_kit.specs.declared.trace.Trace.{Trace}
use Rattle.air_kit.specs.RowStates.{tape_of}
use Rattle.air_kit.specs.Traces.{HasCounts, most_rows}
use Rattle.air_kit.specs.declared.trace.TableName.TheVariants as table
use Rattle.sound_runs.specs.TreeFacts.{HasTree, TreeFacts}
use Rattle.tree_merge.specs.AddrView.{placed_of}
use Rattle.tree_merge.specs.Placed.{placed_digest}
use Rattle.sound_evidence.specs.declared.found.Found.{Found}

-- the facts of the trace's rows, and that its tables are no larger than they may be
pub record IsWalkable (p : Public) (t : Trace) : Type 0 where
  pub facts : TreeFacts (constants_of p.params) t.hasher t.main p.statement.digest
  pub rows : length t.main ≤ most_rows table.Main
  pub hashes : length t.hasher ≤ most_rows table.Hasher

-- a trace whose tables have so many rows as they may, and whose rows have their facts, is readable
abbrev pub CountsAreReadable : Type 0
CountsAreReadable = (p : Public) (t : Trace) → HasCounts t → TreeFacts (constants_of p.params) t.hasher t.main p.statement.digest → IsWalkable p t

-- the block that starts in row i has this tree, and ends in this row
pub record IsFound (p : Public) (t : Trace) (i : ℕ) (found : Found) : Type 0 where
  pub tree : HasTree (constants_of p.params) t.hasher t.main i found.end (placed_of found.tree)

-- the block that starts in row 0 has this tree, which has the statement's digest, and only the last row stands behind its END
pub record IsWholeTree (p : Public) (t : Trace) (found : Found) : Type 0 where
  pub tree : HasTree (constants_of p.params) t.hasher t.main 0 found.end (placed_of found.tree)
  pub last : suc (suc found.end) ≡ length t.main
  pub digest : placed_digest (constants_of p.params) (placed_of found.tree) ≡ p.statement.digest

-- in a span, the operations that end it, begin a batch or take from the tape; each other one counts as NOOP
abbrev pub marked_of : Op → Op
marked_of ops.End = ops.End
marked_of ops.Respan = ops.Respan
marked_of ops.AdvPop = ops.AdvPop
marked_of ops.AdvPopW = ops.AdvPopW
marked_of op = ops.Noop

-- what the rows from row i up to row e take from the tape is what the second list has behind the first
pub record Takes (rows : List (List ℕ)) (i e : ℕ) (before behind : List ℕ) : Type 0 where
  pub is : before ++ tape_of (drop i rows) ≡ behind ++ tape_of (drop e rows)
