-- How often a tuple counts: in a list of counted tuples, and over the rows of a table.
use Rattle.std.specs.Prelude.{◌≡◌, ◌≢◌, ℕ, zero, suc, ◌+◌, nat_eq, if◌then◌else◌, List, [], ◌∷◌, length, slice_get, slice_index_or, Option, Some, None}
use Rattle.std.specs.declared.cmp.Ordering.TheVariants.{Less}
use Rattle.std.specs.Ordering.{nat_cmp}
use Rattle.std.specs.Cmp.Lexicographic.{slice_cmp}
use lib.Pointwise.{pointwise}

-- a tuple and how often it counts
pub record Counted : Type 0 where
  pub tuple : List ℕ
  pub count : ℕ

-- a tuple that counts once
abbrev pub once : List ℕ → Counted
once tuple = record { tuple = tuple; count = 1 }

-- the count where u is this tuple, else 0
abbrev pub hits : List ℕ → ℕ → List ℕ → ℕ
hits tuple count u = if pointwise nat_eq tuple u then count else 0

-- how often u counts in a list
unfoldable pub counted : List Counted → List ℕ → ℕ
counted [] u = 0
counted (c ∷ cs) u = hits c.tuple c.count u + counted cs u

-- the sum of a function over the numbers below n
unfoldable pub total : ℕ → (ℕ → ℕ) → ℕ
total zero f = 0
total (suc n) f = total n f + f n

-- the tuples of a row, from its number, the row and the row after it, if there is one
abbrev pub OfRow : Type 0
OfRow = ℕ → List ℕ → Option (List ℕ) → List Counted

-- the tuples of row i of a table
abbrev pub at_row : OfRow → List (List ℕ) → ℕ → List Counted
at_row tuples rows i = tuples i (slice_index_or rows i []) (slice_get rows (suc i))

-- how often u counts over the first n rows of a table
unfoldable pub over_first : OfRow → List (List ℕ) → ℕ → List ℕ → ℕ
over_first tuples rows n u = total n (λ i. counted (at_row tuples rows i) u)

-- how often u counts over all rows of a table
abbrev pub over_rows : OfRow → List (List ℕ) → List ℕ → ℕ
over_rows tuples rows u = over_first tuples rows (length rows) u

-- the tuples of a row that need the row after it: none in the last row
abbrev pub with_next : (List ℕ → List ℕ → List Counted) → OfRow
with_next tuples i x None = []
with_next tuples i x (Some y) = tuples x y

-- each tuple counts equally often
abbrev pub AreAlike : (List ℕ → ℕ) → (List ℕ → ℕ) → Type 0
AreAlike asked given = (u : List ℕ) → asked u ≡ given u

-- the least tuple whose counts differ, with both counts; tuples are ordered element by element
pub record IsLeastApart (asked given : List ℕ → ℕ) (tuple : List ℕ) (times_asked times_given : ℕ) : Type 0 where
  pub asked_is : times_asked ≡ asked tuple
  pub given_is : times_given ≡ given tuple
  pub apart : times_asked ≢ times_given
  pub least : (u : List ℕ) → slice_cmp nat_cmp u tuple ≡ Less → asked u ≡ given u
