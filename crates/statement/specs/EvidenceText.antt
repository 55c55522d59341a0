-- The text that is written of evidence (docs/FORMATS.md, "Evidence"): lines, each ended by a line feed.
use Rattle.std.specs.Prelude.{ℕ, ◌+◌, List, [], ◌∷◌, ◌++◌, length, codes, decimal}
use Rattle.std.specs.List.{flat_map}
use Rattle.vm_field.specs.WordText.{word_hex}
use Rattle.decimal_text.specs.Decimals.{element_text}
use Rattle.block_tree.specs.Trees.{Tree, Targets, Opaque, Span, Join, Split, Loop, Call, Syscall, Dyn, no_target, target}
use Rattle.block_tree.specs.TreeView.{tree_of}
use Rattle.block_tree.specs.declared.evidence.Evidence.{Evidence}
use Rattle.block_tree.specs.declared.evidence.Evidence.TheVariants.{Run, Pair}

-- a text and the line feed behind it
abbrev pub line : List ℕ → List ℕ
line text = text ++ 10 ∷ []

abbrev pub batch_text : List ℕ → List ℕ
batch_text batch = line (codes "batch" ++ flat_map element_text batch)

abbrev pub span_text : List (List ℕ) → List ℕ
span_text batches = line (codes "span " ++ decimal (length batches)) ++ flat_map batch_text batches

abbrev pub opaque_text : List ℕ → List ℕ
opaque_text digest = line (codes "opaque " ++ word_hex digest)

abbrev pub number_of : Targets → ℕ
number_of no_target = 0
number_of (target first more) = 1 + number_of more

abbrev pub dyn_text : ℕ → List ℕ
dyn_text targets = line (codes "dyn " ++ decimal targets)

-- a tree in preorder
abbrev mutual
  pub tree_text : Tree → List ℕ
  tree_text (Opaque digest) = opaque_text digest
  tree_text (Span batches) = span_text batches
  tree_text (Join first second) = line (codes "join") ++ tree_text first ++ tree_text second
  tree_text (Split on_one on_zero) = line (codes "split") ++ tree_text on_one ++ tree_text on_zero
  tree_text (Loop body) = line (codes "loop") ++ tree_text body
  tree_text (Call callee) = line (codes "call") ++ tree_text callee
  tree_text (Syscall callee) = line (codes "syscall") ++ tree_text callee
  tree_text (Dyn targets) = dyn_text (number_of targets) ++ targets_text targets

  pub targets_text : Targets → List ℕ
  targets_text no_target = []
  targets_text (target first more) = tree_text first ++ targets_text more

abbrev pub cycles_text : ℕ → List ℕ
cycles_text cycles = line (codes "cycles " ++ decimal cycles)

abbrev pub tape_text : List ℕ → List ℕ
tape_text tape = line (codes "tape" ++ flat_map element_text tape)

abbrev pub pair_text : ℕ → ℕ → List ℕ
pair_text first second = line (codes "pair " ++ decimal first ++ 32 ∷ decimal second)

-- the lines of a run
abbrev pub run_text : ℕ → List ℕ → Tree → List ℕ
run_text cycles tape tree = cycles_text cycles ++ tape_text tape ++ tree_text tree

abbrev pub evidence_text : Evidence → List ℕ
evidence_text (Run cycles tree tape) = line (codes "run") ++ run_text cycles tape (tree_of tree)
evidence_text (Pair first second) = pair_text first second
