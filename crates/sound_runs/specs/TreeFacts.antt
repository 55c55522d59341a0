-- What the tree along the rows rests on, and its laws.
use Rattle.std.specs.Prelude.{◌≡◌, ℕ, ◌≤◌, List, length}
use Rattle.rpo_hash.specs.Constants.{constants_of}
use Rattle.air_kit.specs.Hashes.{computation_at}
use Rattle.air_kit.specs.MainTuples.{front}
use Rattle.air_kit.specs.Places.{Claim}
use Rattle.air_kit.specs.declared.trace.Public.{Public}
use Rattle.air_kit.specs.declared.trace.Trace.{Trace}
use Rattle.vm_table.specs.Layout.{row_at}
use Rattle.facts_main.specs.MainRows.{ShowsRows}
use Rattle.sound_buses.specs.BusFacts.{Granted}
use Rattle.sound_blocks.specs.Frames.{FrameFacts}
use Rattle.sound_blocks.specs.Nesting.{NestingFacts}
use Rattle.sound_blocks.specs.Spans.{SpanFacts}
use Rattle.tree_merge.specs.Placed.{PlacedTree, placed_digest}
use Rattle.tree_merge.specs.Merging.{Good}
use Rattle.sound_runs.specs.Built.{Built}

-- each row's facts, how the blocks nest, and that each is hashed
pub record TreeFacts (constants : List ℕ) (hasher rows : List (List ℕ)) (root : List ℕ) : Type 0 where
  pub claim : Claim
  pub shows : ShowsRows claim rows
  pub frames : FrameFacts rows
  pub nesting : NestingFacts rows root
  pub spans : SpanFacts constants hasher rows

module _ (constants : List ℕ) (hasher rows : List (List ℕ)) where
  -- the block has this tree
  abbrev pub HasTree : ℕ → ℕ → PlacedTree → Type 0
  HasTree j e x = Built constants (computation_at hasher) rows j e x

-- granted rows have these facts, where their spans have theirs
abbrev pub GrantedTrees : Type 0
GrantedTrees = (p : Public) (t : Trace) → 1 ≤ length t.main → Granted p t → SpanFacts (constants_of p.params) t.hasher t.main
    → TreeFacts (constants_of p.params) t.hasher t.main p.statement.digest

-- the tree has the digest that the block's END shows
abbrev pub TreeDigest : Type 0
TreeDigest = (constants : List ℕ) (hasher rows : List (List ℕ)) (root : List ℕ) → TreeFacts constants hasher rows root
    → (j e : ℕ) (x : PlacedTree) → HasTree constants hasher rows j e x → placed_digest constants x ≡ front (row_at rows e)

-- and its addresses are those of its hashes
abbrev pub TreeGood : Type 0
TreeGood = (constants : List ℕ) (hasher rows : List (List ℕ)) (root : List ℕ) → TreeFacts constants hasher rows root
    → (j e : ℕ) (x : PlacedTree) → HasTree constants hasher rows j e x → Good constants (computation_at hasher) x
