-- Lists of kernel procedures, by their digests.
use Rattle.std.specs.Prelude.{ℕ, nat_eq, List}
use Rattle.std.specs.List.{IsDistinct}
use lib.Pointwise.{pointwise}

-- no word stands in the list twice
abbrev pub AreDistinct : List (List ℕ) → Type 0
AreDistinct words = IsDistinct (pointwise nat_eq) words
