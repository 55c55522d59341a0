-- What the code of `check --source` goes by, and how it ends early.
use Rattle.std.specs.Prelude.{◌≡◌, ◌≢◌, ℕ, ◌^◌, ◌≤◌, List, Option}
use Rattle.rpo_hash.specs.Constants.{constants_of}
use Rattle.block_tree.specs.Trees.{Tree, tree_digest}
use Rattle.source_check.specs.Numbering.{blocks_in}
use Rattle.source_check.specs.declared.evidence.SourceStop.{SourceStop}
use Rattle.source_check.specs.declared.evidence.SourceStop.TheVariants.{OtherDigest, Memory}
use Rattle.air_kit.specs.declared.trace.Public.{Public}
use Rattle.cmd_kit.specs.declared.outcome.Outcome.{Outcome}
use Rattle.cmd_kit.specs.declared.outcome.Outcome.TheVariants as outcome
use Rattle.cmd_kit.specs.declared.status.Status.TheVariants as status
use Rattle.cmd_kit.specs.CheckSourceEnds.{IsBuild, other_program_line}
use Rattle.cmd_kit.specs.Outcomes.{SaysStatus}
use Rattle.cmd_kit.specs.Statuses.{kind_of, planned}
use Rattle.cmd_kit.specs.Steps.{SourceFile, ends_with, unbuilt}

-- the answer to the refusal of a source that has no program. Want of memory says nothing.
abbrev pub Unbuilt : List ℕ → SourceFile → Option SourceFile → Outcome → Type 0
Unbuilt constants source kernel (outcome.Ends a) = IsBuild constants source kernel (unbuilt a) × (kind_of a.status ≡ planned)
Unbuilt constants source kernel outcome.Memory = Unit {0}

-- a tree of so few blocks that there are addresses for all behind the rows of a trace
abbrev pub HasFewBlocks : List ℕ → Tree → Type 0
HasFewBlocks constants tree = blocks_in constants tree ≤ 2 ^ 29

-- the answer to why there is no evidence for a source
abbrev pub SaysStop : SourceStop → Outcome → Type 0
SaysStop (OtherDigest file own) end = SaysStatus end status.OtherProgram (other_program_line file own)
SaysStop Memory end = end ≡ outcome.Memory

-- the answer where the statement has another digest than the tree of the source. Want of memory says nothing.
abbrev pub EndsApart : Public → Tree → Outcome → Type 0
EndsApart p source (outcome.Ends a) =
    (p.statement.digest ≢ tree_digest (constants_of p.params) source)
    × (a ≡ ends_with status.OtherProgram (other_program_line p.statement.digest (tree_digest (constants_of p.params) source)))
EndsApart p source outcome.Memory = Unit {0}
