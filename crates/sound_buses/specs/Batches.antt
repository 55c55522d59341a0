-- Where the groups and the immediates of a batch come from, and where the hasher has it.
use Rattle.std.specs.Prelude.{◌≡◌, ◌≢◌, ℕ, suc, ◌+◌, ◌<◌, true, List, length}
use Rattle.vm_ops.specs.declared.op.Op.TheVariants as ops
use Rattle.vm_table.specs.MainColumns.{h, s, gc, ha}
use Rattle.air_kit.specs.MainTuples.{is_batch_op, opens_group, positions}
use Rattle.vm_table.specs.Layout.{row_at}
use Rattle.facts_main.specs.MainRows.{op_in}
use Rattle.sound_buses.specs.Blocks.{IsAt}

-- a batch begins in row i, and a row stands behind it
pub record Begins (rows : List (List ℕ)) (i : ℕ) : Type 0 where
  pub within : suc i < length rows
  pub is : is_batch_op (op_in rows i) ≡ true

-- the hasher's address of the batch that begins in row i
abbrev pub batch_at : List (List ℕ) → ℕ → ℕ
batch_at rows i = ha (row_at rows (suc i))

-- This element is taken in row r: it stands at a position of the batch at the row's address, in use and behind the first one, and so many
-- positions are left as the row says.
pub record IsTaken (rows : List (List ℕ)) (r element : ℕ) : Type 0 where
  pub batch : ℕ
  pub begins : Begins rows batch
  pub same : batch_at rows batch ≡ ha (row_at rows r)
  pub place : ℕ
  pub behind : 0 < place
  pub in_use : place < positions (row_at rows batch)
  pub left : gc (row_at rows r) + place ≡ positions (row_at rows batch)
  pub is : element ≡ h (row_at rows batch) place

-- a PUSH takes its immediate, and a row behind which the next group begins takes that group
pub record GroupFacts (rows : List (List ℕ)) : Type 0 where
  pub immediate : (r : ℕ) → IsAt rows r ops.Push → IsTaken rows r (s (row_at rows (suc r)) 0)
  pub group : (r : ℕ) → suc r < length rows → opens_group (row_at rows r) (row_at rows (suc r)) ≡ true → op_in rows r ≢ ops.Push
      → IsTaken rows r (h (row_at rows (suc r)) 0)
  pub one : (i k : ℕ) → Begins rows i → Begins rows k → batch_at rows i ≡ batch_at rows k → i ≡ k
