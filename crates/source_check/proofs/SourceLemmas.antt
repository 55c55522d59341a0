-- Evidence for a source.
use Rattle.std.proofs.Common.{◌≡◌, ℕ, ◌-◌, ◌<◌, ◌≤◌, List, length, refl, sym, ap, ap₂, ◌∙◌}
use Rattle.block_tree.specs.KnownTrees.{HasNoOpaque}
use Rattle.block_tree.specs.Trees.{Tree, Join, Split, Loop, Call, Syscall, Refines, opaque, span, join, split, loop, call, syscall, dyn}
use Rattle.air_kit.specs.declared.trace.Trace.{Trace}
use Rattle.tree_merge.specs.Pairs.{IsPair}
use Rattle.source_check.specs.SourceEvidences.{IsNodeClash}
use Rattle.source_check.specs.SourceLaws.{HasNoDyn, RanIsSource}
use Rattle.source_check.specs.SourceNodes.{hashed_with, inputs_of}
use Rattle.source_check.proofs.HashedLemmas.{hashed-file, hashed-node}

module _ (constants : List ℕ) where
  same-tree : {tree source : Tree} → Refines constants tree source → HasNoOpaque source → HasNoDyn source → tree ≡ source
  same-tree (opaque e) known plain = absurd known
  same-tree span known plain = refl
  same-tree (join r s) known plain = ap₂ Join (same-tree r known.0 plain.0) (same-tree s known.1 plain.1)
  same-tree (split r s) known plain = ap₂ Split (same-tree r known.0 plain.0) (same-tree s known.1 plain.1)
  same-tree (loop r) known plain = ap Loop (same-tree r known plain)
  same-tree (call r) known plain = ap Call (same-tree r known plain)
  same-tree (syscall r) known plain = ap Syscall (same-tree r known plain)
  same-tree (dyn f) known plain = absurd plain

pub ran-is-source : RanIsSource
ran-is-source constants tree source known plain r = same-tree constants r known plain

-- a pair of which one is hashed by the table and the other one by a block
pub node-clash : (constants : List ℕ) (t : Trace) (source : Tree) (first second : ℕ)
    → IsPair constants (hashed_with t.hasher (inputs_of constants source)) first second
    → first ≤ length t.hasher → length t.hasher < second → IsNodeClash constants t source first (second - length t.hasher)
node-clash constants t source first second pair in_file in_source =
    let inputs = inputs_of constants source in
    record {
      one = pair.differs.one;
      other = pair.differs.other;
      one_is = sym (hashed-file t.hasher inputs first in_file) ∙ pair.differs.one_is;
      other_is = sym (hashed-node t.hasher inputs second in_source) ∙ pair.differs.other_is;
      differ = pair.differs.differ;
      digest = pair.differs.digest;
    }
