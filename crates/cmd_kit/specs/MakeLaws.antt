-- What `make` answers, and what stands where it answers `Ok`.
use Rattle.std.specs.Prelude.{◌≡◌, ◌≢◌, ℕ, List, [], Some}
use Rattle.std.specs.FinMap.{insert}
use Rattle.rpo_hash.specs.Constants.{constants_of}
use Rattle.block_tree.specs.TreeView.{tree_of}
use Rattle.statement.specs.Inputs.{inputs_text}
use Rattle.statement.specs.Statements.{stated_of}
use Rattle.air_kit.specs.Acceptance.{IsAccepted}
use Rattle.air_kit.specs.declared.trace.Public.{Public}
use Rattle.workloads.specs.Workloads.{source_text, squares}
use Rattle.fill_files.specs.RunFiles.{IsTableFileOf, claim_of_run}
use Rattle.vm_io.specs.Shelf.{Files, ShelfState}
use Rattle.vm_io.specs.Sink.{SinkState, with_piece}
use Rattle.cmd_kit.specs.declared.status.Status.{Status}
use Rattle.cmd_kit.specs.declared.status.Status.TheVariants as status
use Rattle.cmd_kit.specs.Asked.{MadeNames, make, asked}
use Rattle.cmd_kit.specs.Completeness.{IsGoodMake}
use Rattle.cmd_kit.specs.MakeEnds.{make_lines}
use Rattle.cmd_kit.specs.Serving.{Serves}

-- `make` is never refused: the trace of a run is accepted.
abbrev pub MakeIsNotRefused : Type 0
MakeIsNotRefused =
    (words : List (List ℕ)) (s : Status) (old new : ShelfState) (before now : SinkState) (params : List ℕ) (turns : ℕ) (names : MadeNames)
    → Serves words s old new before now → asked words ≡ make params turns names → s ≢ status.Refused

-- The parameters were there: the source that is made has a program, which runs from the inputs that are made to an end. This source and
-- the one text of these inputs stand beside the files of m, and the cycles and the stack of the run were printed. The trace in each table
-- file of the run is accepted for what is claimed of it, as the last line says.
pub record MadeStands (params : List ℕ) (turns : ℕ) (names : MadeNames) (m : Files) (new : ShelfState) (before now : SinkState) : Type 0 where
  pub good : IsGoodMake m params names.source turns
  pub files : new.files ≡ Some (insert (insert m names.source (source_text turns)) names.inputs (inputs_text [] (squares turns)))
  pub taken : now ≡ record before { taken = with_piece before.taken (make_lines good.last) }
  pub accepted : (p : Public) → constants_of p.params ≡ good.constants
      → stated_of p.statement ≡ claim_of_run good.constants (tree_of good.program.tree) good.program.kernel [] good.last.core.stack
      → (bytes : List ℕ) → (file : IsTableFileOf good.constants good.program.kernel good.last good.log bytes) → IsAccepted p file.trace

-- Where `make` answers `Ok`, these stand.
abbrev pub AnsweredMakeStands : Type 0
AnsweredMakeStands =
    (words : List (List ℕ)) (old new : ShelfState) (before now : SinkState) (params : List ℕ) (turns : ℕ) (names : MadeNames) (m : Files)
    → Serves words status.Ok old new before now → asked words ≡ make params turns names → old.files ≡ Some m
    → MadeStands params turns names m new before now
