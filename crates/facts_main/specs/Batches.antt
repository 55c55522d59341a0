-- What a row shows that starts a batch, and with what the row behind it begins.
use Rattle.std.specs.Prelude.{◌≡◌, ◌≢◌, ℕ, ◌+◌, ◌*◌, ◌<◌, ◌≤◌, List}
use Rattle.vm_field.specs.Signs.{◌⊞◌, ◌⊠◌}
use Rattle.vm_table.specs.MainColumns.{h, gc, ox, c, w}
use Rattle.air_kit.specs.MainTuples.{positions}

-- The flags of how many positions are in use: at most one of them is set, so that one, two, four or eight are.
pub record IsBatchRow (x : List ℕ) : Type 0 where
  pub bits : (j : ℕ) → j < 3 → c x j < 2
  pub most : c x 0 + c x 1 + c x 2 ≤ 1
  pub room : positions x ≤ 8

-- No more positions are in use than need be: one that a smaller number would leave out is not 0, which the witnesses show.
pub record NeedsPositions (x : List ℕ) : Type 0 where
  pub eight : c x 0 ≡ 1 → h x 4 ⊠ w x 0 ⊞ h x 5 ⊠ w x 1 ⊞ h x 6 ⊠ w x 2 ⊞ h x 7 ⊠ w x 3 ≡ 1
  pub four : c x 1 ≡ 1 → h x 2 ⊠ w x 0 ⊞ h x 3 ⊠ w x 1 ≡ 1
  pub two : c x 2 ≡ 1 → h x 1 ⊠ w x 0 ≡ 1

-- the batch of such a row
pub record ShowsBatch (x : List ℕ) : Type 0 where
  pub is_batch : IsBatchRow x
  pub unused : (q : ℕ) → positions x ≤ q → q < 8 → h x q ≡ 0
  pub needed : NeedsPositions x

-- its first operation takes position 0 as its group, at the first place, and all other positions are left
pub record OpensBatch (x y : List ℕ) : Type 0 where
  pub group : h y 0 ≡ h x 0
  pub left : gc y + 1 ≡ positions x
  pub place : ox y ≡ 0

-- of the positions in the second half of those in use, one is not 0
pub record UsesHalf (x : List ℕ) : Type 0 where
  pub place : ℕ
  pub behind : positions x ≤ 2 * place
  pub within : place < positions x
  pub some : h x place ≢ 0
