-- The rows of the range table: each asked value with its count, and between two of them the values that the table steps by.
use Rattle.std.specs.Prelude.{◌≡◌, ◌<◌, length, slice_index, ℕ, zero, suc, ◌+◌, ◌-◌, min, ◌==◌, nat_le, nat_lt, if◌then◌else◌, List, [], ◌∷◌, count_by}

-- how often a value is asked
abbrev pub times_asked : List ℕ → ℕ → ℕ
times_asked asked v = count_by (λ value. value == v) asked

-- by value, how often each is asked
pub record AreTimes (asked times : List ℕ) : Type 0 where
  pub values : length times ≡ 65536
  pub counts : (v : ℕ) → v < 65536 → slice_index times v ≡ times_asked asked v

-- the least asked value above this one, or 65535 where none is
unfoldable pub next_asked : List ℕ → ℕ → ℕ
next_asked [] v = 65535
next_asked (value ∷ asked) v = if nat_lt v value then min value (next_asked asked v) else next_asked asked v

-- the steps that the table may take, the greatest first
abbrev pub allowed_steps : List ℕ
allowed_steps = 2187 ∷ 729 ∷ 243 ∷ 81 ∷ 27 ∷ 9 ∷ 3 ∷ 1 ∷ []

-- the first of these steps that goes no further than this distance
unfoldable pub step_within : List ℕ → ℕ → ℕ
step_within [] distance = 0
step_within (step ∷ steps) distance = if nat_le step distance then step else step_within steps distance

-- The value behind this one: by the greatest allowed step that does not pass the next asked value.
unfoldable pub value_behind : List ℕ → ℕ → ℕ
value_behind asked v = v + step_within allowed_steps (next_asked asked v - v)

-- the row of a value
unfoldable pub range_row : List ℕ → ℕ → List ℕ
range_row asked v = times_asked asked v ∷ v ∷ []

-- the rows from value v on, which end with 65535; at most n stand before that
unfoldable pub rows_from : ℕ → List ℕ → ℕ → List (List ℕ)
rows_from zero asked v = range_row asked 65535 ∷ []
rows_from (suc n) asked v =
    if nat_lt v 65535 then range_row asked v ∷ rows_from n asked (value_behind asked v) else range_row asked 65535 ∷ []

-- all rows, which begin with 0
unfoldable pub range_rows : List ℕ → List (List ℕ)
range_rows asked = rows_from 65535 asked 0
