-- What merging two trees in memory asks and answers, under the permutation's constants and what is hashed at an address, which may be
-- that of a trace.
use Rattle.std.specs.Prelude.{ℕ, List, All, Option}
use Rattle.vm_field.specs.Sponge.{HashInput}
use Rattle.rpo_hash.specs.declared.params.Params.{Params}
use Rattle.rpo_hash.specs.Constants.{constants_of}
use Rattle.air_kit.specs.declared.trace.Trace.{Trace}
use Rattle.air_kit.specs.Hashes.{computation_at}
use Rattle.tree_merge.specs.AddrView.{placed_of, entry_of, entries_of}
use Rattle.tree_merge.specs.Merging.{Mergeable, Merged}
use Rattle.tree_merge.specs.Targets.{IsGoodEntry, IsAdded, AreMerged}
use Rattle.tree_merge.specs.Children.{AreTwos, AreOnes}
use Rattle.tree_merge.specs.Pairs.{Differs, IsPair}
use Rattle.tree_merge.specs.declared.addr_tree.AddrTree.{AddrTree}
use Rattle.tree_merge.specs.declared.addr_tree.Target.{Target}
use Rattle.tree_merge.specs.declared.addr_tree.MergeStop.{MergeStop}
use Rattle.tree_merge.specs.declared.addr_tree.MergeStop.TheVariants.{Pair, Memory}

module _ (params : Params) (comp : ℕ → Option HashInput) where
  abbrev pub AreMergeableBy : AddrTree → AddrTree → Type 0
  AreMergeableBy a b = Mergeable (constants_of params) comp (placed_of a) (placed_of b)

  abbrev pub IsMergedBy : AddrTree → AddrTree → AddrTree → Type 0
  IsMergedBy a b m = Merged (constants_of params) comp (placed_of a) (placed_of b) (placed_of m)

  -- the blocks at these two addresses, of one digest, have these children: a and b the one, c and d the other
  abbrev pub HaveTwo : ℕ → ℕ → AddrTree → AddrTree → AddrTree → AddrTree → Type 0
  HaveTwo p q a b c d = AreTwos (constants_of params) comp p q (placed_of a) (placed_of b) (placed_of c) (placed_of d)

  -- a the one, c the other
  abbrev pub HaveOne : ℕ → ℕ → AddrTree → AddrTree → Type 0
  HaveOne p q a c = AreOnes (constants_of params) comp p q (placed_of a) (placed_of c)

  -- different inputs of one digest are hashed at these two addresses
  abbrev pub DifferAt : ℕ → ℕ → Type 0
  DifferAt p q = Differs (constants_of params) comp p q

  -- the digest of a target stands beside it, and its addresses are those of its hashes
  abbrev pub IsGoodTarget : Target → Type 0
  IsGoodTarget target = IsGoodEntry (constants_of params) comp (entry_of target)

  abbrev pub AreGoodTargets : List Target → Type 0
  AreGoodTargets targets = All (IsGoodEntry (constants_of params) comp) (entries_of targets)

  abbrev pub IsTargetAdded : List Target → Target → List Target → Type 0
  IsTargetAdded old target new = IsAdded (constants_of params) comp (entries_of old) (entry_of target) (entries_of new)

  abbrev pub AreTargetsMerged : List Target → List Target → List Target → Type 0
  AreTargetsMerged a b m = AreMerged (constants_of params) comp (entries_of a) (entries_of b) (entries_of m)

  abbrev pub IsStopBy : MergeStop → Type 0
  IsStopBy (Pair first second) = IsPair (constants_of params) comp first second
  IsStopBy Memory = Unit {0}

-- by what is hashed in a trace
abbrev pub AreMergeable : Params → Trace → AddrTree → AddrTree → Type 0
AreMergeable params t a b = AreMergeableBy params (computation_at t.hasher) a b

abbrev pub IsMerged : Params → Trace → AddrTree → AddrTree → AddrTree → Type 0
IsMerged params t a b m = IsMergedBy params (computation_at t.hasher) a b m

abbrev pub IsStop : Params → Trace → MergeStop → Type 0
IsStop params t stop = IsStopBy params (computation_at t.hasher) stop
