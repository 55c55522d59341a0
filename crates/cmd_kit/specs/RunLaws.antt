-- What stands where `run` answers `Ok` (docs/PROOF.md).
use Rattle.std.specs.Prelude.{◌≡◌, ℕ, suc, List, ◌++◌, length, Option, Some}
use Rattle.std.specs.FinMap.{insert}
use Rattle.rpo_hash.specs.Constants.{constants_of}
use Rattle.block_tree.specs.TreeView.{tree_of}
use Rattle.statement.specs.Statements.{Stated, stated_of}
use Rattle.air_kit.specs.Acceptance.{IsAccepted}
use Rattle.air_kit.specs.RowStates.{tape_of}
use Rattle.air_kit.specs.declared.trace.Public.{Public}
use Rattle.fill_files.specs.RunFiles.{IsTableFileOf, IsStatementFileOf, claim_of_run}
use Rattle.vm_io.specs.Shelf.{Files, ShelfState}
use Rattle.vm_io.specs.Sink.{SinkState, with_piece}
use Rattle.cmd_kit.specs.declared.status.Status.TheVariants as status
use Rattle.cmd_kit.specs.Asked.{Outputs, run, check, asked}
use Rattle.cmd_kit.specs.Completeness.{IsGood, IsGoodRun}
use Rattle.cmd_kit.specs.RunEnds.{run_lines}
use Rattle.cmd_kit.specs.Serving.{Serves}

-- what is claimed of the run of good files
abbrev pub claim_of_good : (m : Files) (params source inputs : List ℕ) (kernel : Option (List ℕ)) (limit : ℕ)
    → IsGoodRun m params source inputs kernel limit → Stated
claim_of_good m params source inputs kernel limit good =
    claim_of_run good.constants (tree_of good.program.tree) good.program.kernel good.given.stack good.last.core.stack

-- The files of the command were there: the source has a program, which runs from these inputs to an end within the limit. The table file and
-- the statement of that run stand beside the files of m, and its cycles and its stack were printed. The table has a row for each cycle and a
-- last one, its rows take of the tape what the run took, and it is accepted for the statement.
pub record RunStands (params source inputs : List ℕ) (outputs : Outputs) (kernel : Option (List ℕ)) (limit : ℕ) (m : Files) (new : ShelfState)
    (before now : SinkState) : Type 0 where
  pub good : IsGoodRun m params source inputs kernel limit
  pub table : List ℕ
  pub shows : IsTableFileOf good.constants good.program.kernel good.last good.log table
  pub statement : List ℕ
  pub claims : IsStatementFileOf (claim_of_good m params source inputs kernel limit good) statement
  pub files : new.files ≡ Some (insert (insert m outputs.table table) outputs.statement statement)
  pub taken : now ≡ record before { taken = with_piece before.taken (run_lines good.last) }
  pub rows : length shows.trace.main ≡ suc good.last.core.clock
  pub tape : good.given.advice ≡ tape_of shows.trace.main ++ good.last.tape
  pub accepted : (p : Public) → constants_of p.params ≡ good.constants
      → stated_of p.statement ≡ claim_of_good m params source inputs kernel limit good → IsAccepted p shows.trace

-- Where `run` answers `Ok`, its files are good, and these stand.
abbrev pub AnsweredRunStands : Type 0
AnsweredRunStands =
    (words : List (List ℕ)) (old new : ShelfState) (before now : SinkState) (params source inputs : List ℕ) (outputs : Outputs)
    (kernel : Option (List ℕ)) (limit : ℕ) (m : Files)
    → Serves words status.Ok old new before now → asked words ≡ run params source inputs outputs kernel limit → old.files ≡ Some m
    → RunStands params source inputs outputs kernel limit m new before now

-- Where `run` answers `Ok`, the files that it leaves are good for every `check` of what it wrote under the same parameters.
abbrev pub RunLeavesGoodFiles : Type 0
RunLeavesGoodFiles =
    (words : List (List ℕ)) (old new : ShelfState) (before now : SinkState) (params source inputs : List ℕ) (outputs : Outputs)
    (kernel : Option (List ℕ)) (limit : ℕ) (m : Files)
    → Serves words status.Ok old new before now → asked words ≡ run params source inputs outputs kernel limit → old.files ≡ Some m
    → (n : Files) × (new.files ≡ Some n) × ((evidence : List ℕ) → IsGood n (check params outputs.table outputs.statement evidence))
