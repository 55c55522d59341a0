-- What the loops over a source keep of the place that they have come to.
use Rattle.std.proofs.Common.{◌≡◌, ℕ, ◌+◌, ◌≤◌}
use Rattle.masm_lex.specs.declared.cursor.Cursor.{Cursor}

-- i bytes stand before the place
pub record IsCounted (place : Cursor) (i : ℕ) : Type 0 where
  pub index : place.index ≡ i
  pub line : place.line ≤ i + 1
  pub column : place.column ≤ i + 1
