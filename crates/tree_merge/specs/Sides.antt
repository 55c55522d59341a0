-- On which side of an address the addresses of trees stand: so a pair of hashes that merging finds is known to be one of each tree.
use Rattle.std.specs.Prelude.{◌≡◌, ℕ, ◌<◌, ◌≤◌, false, List, All}
use Rattle.tree_merge.specs.Placed.{PlacedTree, PlacedTargets, Entry, Opaque, Span, Join, Split, Loop, Call, Syscall, Dyn, no_placed, placed}
use Rattle.tree_merge.specs.AddrView.{placed_of, entries_of}
use Rattle.tree_merge.specs.Merging.{is_among}
use Rattle.tree_merge.specs.Targets.{Distinct}
use Rattle.tree_merge.specs.declared.addr_tree.AddrTree.{AddrTree}
use Rattle.tree_merge.specs.declared.addr_tree.Target.{Target}
use Rattle.tree_merge.specs.declared.addr_tree.MergeStop.{MergeStop}
use Rattle.tree_merge.specs.declared.addr_tree.MergeStop.TheVariants.{Pair, Memory}

module _ (Stands : ℕ → Type 0) where
  abbrev mutual
    -- the address of each block
    pub AtEach : PlacedTree → Type 0
    AtEach (Opaque digest) = Unit {0}
    AtEach (Span at batches) = Stands at
    AtEach (Join at first second) = Stands at × AtEach first × AtEach second
    AtEach (Split at on_one on_zero) = Stands at × AtEach on_one × AtEach on_zero
    AtEach (Loop at body) = Stands at × AtEach body
    AtEach (Call at callee) = Stands at × AtEach callee
    AtEach (Syscall at callee) = Stands at × AtEach callee
    AtEach (Dyn at targets) = Stands at × InEach targets

    pub InEach : PlacedTargets → Type 0
    InEach no_placed = Unit {0}
    InEach (placed digest first more) = AtEach first × InEach more

-- above this one
abbrev pub AreAbove : ℕ → PlacedTree → Type 0
AreAbove bound x = AtEach (λ at. bound < at) x

-- no higher than this one
abbrev pub AreUpTo : ℕ → PlacedTree → Type 0
AreUpTo bound x = AtEach (λ at. at ≤ bound) x

-- those of the first tree above it, and those of the second no higher
abbrev pub AreApart : ℕ → AddrTree → AddrTree → Type 0
AreApart bound a b = AreAbove bound (placed_of a) × AreUpTo bound (placed_of b)

-- those of a target whose digest is not one of these
abbrev pub IsAboveUnless : ℕ → List (List ℕ) → Entry → Type 0
IsAboveUnless bound known entry = is_among entry.digest known ≡ false → AreAbove bound entry.tree

abbrev pub AreAboveUnless : ℕ → List (List ℕ) → List Target → Type 0
AreAboveUnless bound known targets = All (IsAboveUnless bound known) (entries_of targets)

-- those of all targets of the first list above it, and those of the second no higher, of which no two have one digest
pub record AreTargetsApart (bound : ℕ) (a b : List Target) : Type 0 where
  pub above : All (λ (entry : Entry). AreAbove bound entry.tree) (entries_of a)
  pub up_to : All (λ (entry : Entry). AreUpTo bound entry.tree) (entries_of b)
  pub distinct : Distinct (entries_of b)

-- what is merged now is not one of these, whose targets were merged before
pub record IsTargetApart (bound : ℕ) (known : List (List ℕ)) (targets : List Target) (target : Target) : Type 0 where
  pub above : AreAboveUnless bound known targets
  pub new : is_among target.digest known ≡ false
  pub up_to : AreUpTo bound (placed_of target.tree)

-- of a pair, the first one stands no higher than this address, and the second one above it
abbrev pub IsAcross : ℕ → MergeStop → Type 0
IsAcross bound (Pair first second) = (first ≤ bound) × (bound < second)
IsAcross bound Memory = Unit {0}
