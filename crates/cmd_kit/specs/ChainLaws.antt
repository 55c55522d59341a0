-- What stands where `chain` answers `Ok` (docs/PROOF.md).
use Rattle.std.specs.Prelude.{◌≡◌, ℕ, List, [], ◌∷◌, length, Some}
use Rattle.std.specs.FinMap.{insert}
use Rattle.block_tree.specs.TreeView.{tree_of}
use Rattle.block_tree.specs.declared.evidence.Evidence.{Evidence}
use Rattle.block_tree.specs.declared.evidence.Evidence.TheVariants.{Run, Pair}
use Rattle.run_chain.specs.Chains.{Leg, RunsThrough}
use Rattle.run_chain.specs.Following.{first_stack}
use Rattle.vm_io.specs.Shelf.{Files, ShelfState}
use Rattle.vm_io.specs.Sink.{SinkState, with_piece}
use Rattle.cmd_kit.specs.declared.status.Status.TheVariants as status
use Rattle.cmd_kit.specs.Asked.{chain, asked}
use Rattle.cmd_kit.specs.ChainEnds.{AreEvidence, chain_text, accepted_links_line}
use Rattle.cmd_kit.specs.Completeness.{IsGoodChain}
use Rattle.cmd_kit.specs.Serving.{Serves}
use Rattle.cmd_kit.specs.Steps.{Judged}

-- each is evidence of a run, and none a pair
abbrev pub AreRuns : List Evidence → Type 0
AreRuns [] = Unit {0}
AreRuns (Run cycles tree tape ∷ later) = AreRuns later
AreRuns (Pair first second ∷ later) = ⊥

-- what is run at each link: the tree of its evidence, on the tape of its evidence, with the kernel of its claim
abbrev pub legs_of : List Judged → List Evidence → List Leg
legs_of [] evidence = []
legs_of (link ∷ links) [] = []
legs_of (link ∷ links) (Run cycles tree tape ∷ later) =
    record { kernel = link.claim.kernel; cycles = cycles; tree = tree_of tree; tape = tape } ∷ legs_of links later
legs_of (link ∷ links) (Pair first second ∷ later) = []

-- the stack with which a run on the inputs of the first claim starts
abbrev pub stack_before : List Judged → List ℕ
stack_before [] = []
stack_before (link ∷ links) = first_stack link.claim.inputs

-- the outputs of the last claim, or this where there is none
abbrev pub stack_behind : List ℕ → List Judged → List ℕ
stack_behind left [] = left
stack_behind left (link ∷ links) = stack_behind link.claim.outputs links

-- The files of the list are a chain. The text of evidence for each link, in order, stands under the evidence's name beside the files of m,
-- and the number of links was printed. Where all of it is evidence of runs, these are one run through all trees.
pub record ChainStands (params list output : List ℕ) (m : Files) (new : ShelfState) (before now : SinkState) : Type 0 where
  pub good : IsGoodChain m params list output
  pub evidence : List Evidence
  pub are_evidence : AreEvidence good.constants good.judged evidence
  pub one_run : AreRuns evidence → RunsThrough good.constants (legs_of good.judged evidence) (stack_before good.judged) (stack_behind [] good.judged)
  pub files : new.files ≡ Some (insert m output (chain_text 0 evidence))
  pub taken : now ≡ record before { taken = with_piece before.taken (accepted_links_line (length good.judged)) }

-- Where `chain` answers `Ok`, its files are a chain, and what it wrote is its evidence.
abbrev pub ChainHasEvidence : Type 0
ChainHasEvidence =
    (words : List (List ℕ)) (old new : ShelfState) (before now : SinkState) (params list output : List ℕ) (m : Files)
    → Serves words status.Ok old new before now → asked words ≡ chain params list output → old.files ≡ Some m
    → ChainStands params list output m new before now
