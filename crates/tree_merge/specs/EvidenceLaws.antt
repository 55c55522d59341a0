-- The laws of evidence.
use Rattle.std.specs.Prelude.{◌≡◌, ℕ, List}
use Rattle.rpo_hash.specs.Constants.{constants_of}
use Rattle.block_tree.specs.Trees.{Tree, Opaque, Refines}
use Rattle.block_tree.specs.Laws.{tape_taken}
use Rattle.air_kit.specs.declared.trace.Public.{Public}
use Rattle.air_kit.specs.declared.trace.Trace.{Trace}
use Rattle.tree_merge.specs.Evidences.{IsRun}

-- a tree that refines the tree of a run is that of the same run
abbrev pub RefinedIsRun : Type 0
RefinedIsRun = (p : Public) (t : Trace) (cycles : ℕ) (x y : Tree) (tape : List ℕ) → IsRun p t cycles x tape
    → Refines (constants_of p.params) y x → IsRun p t cycles y tape

-- its tape is what its cycles took
abbrev pub RunTookTape : Type 0
RunTookTape = (p : Public) (t : Trace) (cycles : ℕ) (x : Tree) (tape : List ℕ) → (r : IsRun p t cycles x tape)
    → tape ≡ tape_taken r.events

-- a tree of which only the digest is known is never that of a run
abbrev pub OpaqueIsNoRun : Type 0
OpaqueIsNoRun = (p : Public) (t : Trace) (cycles : ℕ) (digest tape : List ℕ) → IsRun p t cycles (Opaque digest) tape → ⊥
