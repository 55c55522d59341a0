-- Where a number of places is cut into pieces.
use Rattle.std.specs.Prelude.{◌≡◌, ℕ, ◌*◌, ◌/◌, ◌<◌, ◌≤◌}

-- where piece j of k pieces of n places begins
unfoldable pub cut_at : ℕ → ℕ → ℕ → ℕ
cut_at piece count pieces = piece * count / pieces

abbrev pub CutStarts : Type 0
CutStarts = (count pieces : ℕ) → 0 < pieces → cut_at 0 count pieces ≡ 0

abbrev pub CutEnds : Type 0
CutEnds = (count pieces : ℕ) → 0 < pieces → cut_at pieces count pieces ≡ count

abbrev pub CutGrows : Type 0
CutGrows = (i j count pieces : ℕ) → i ≤ j → 0 < pieces → cut_at i count pieces ≤ cut_at j count pieces
