-- How far the turns of a loop have been read.
use Rattle.sound_evidence.proofs.Words.{◌≡◌, ℕ, suc, ◌<◌, constants_of, Refines, addr, computation_at, front, Public, Trace, row_at, Starts, own, Turns}
use Rattle.sound_evidence.proofs.Words.{PlacedTree, placed_digest, plain, Good}

-- The next turn of the loop that starts in row i begins in row a, and this tree refines the tree of each turn so far.
pub record Turning (p : Public) (t : Trace) (i a : ℕ) (body : PlacedTree) : Type 0 where
  pub starts : Starts t.main a
  pub inside : addr (row_at t.main a) ≡ own t.main i
  pub later : i < a
  pub good : Good (constants_of p.params) (computation_at t.hasher) body
  pub digest : placed_digest (constants_of p.params) body ≡ front (row_at t.main i)
  pub rest : (m : PlacedTree) (e : ℕ) → Refines (constants_of p.params) (plain m) (plain body)
      → Turns (constants_of p.params) (computation_at t.hasher) t.main i a e m
      → Turns (constants_of p.params) (computation_at t.hasher) t.main i (suc i) e m
