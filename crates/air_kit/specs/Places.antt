-- Where an entry stands: in each row, in each row and the one after it, in the first row, or in the last.
use Rattle.std.specs.Prelude.{ℕ, zero, suc, ◌+◌, ◌==◌, if◌then◌else◌, List, [], ◌∷◌, Option, Some, None, slice_index}
use Rattle.air_kit.specs.Flags.{Flags, flag}

-- What the entries read beside the rows: the constants of the permutation, the statement, how many rows the tables have, and
-- the first key of the table of cells left.
pub record Claim : Type 0 where
  pub constants : List ℕ
  pub digest : List ℕ
  pub kernel : List (List ℕ)
  pub inputs : List ℕ
  pub outputs : List ℕ
  pub lengths : List ℕ
  pub left_key : ℕ

-- a row in its place: its number, its cells, and the row after it, if there is one
pub record Spot : Type 0 where
  pub row : ℕ
  pub cur : List ℕ
  pub next : Option (List ℕ)

-- an entry of a row of the main table, by its flags and its cells
abbrev pub RowEntry : Type 0
RowEntry = Flags → List ℕ → ℕ

-- an entry of a row and the one after it, by the flags and the cells of both
abbrev pub PairEntry : Type 0
PairEntry = Flags → Flags → List ℕ → List ℕ → ℕ

-- its value in a row
abbrev pub on_row : RowEntry → Spot → ℕ
on_row entry p = entry (flag p.cur) p.cur

-- its value in a row and the one after it; 0 where there is none
abbrev pub between : PairEntry → List ℕ → Option (List ℕ) → ℕ
between entry x None = 0
between entry x (Some y) = entry (flag x) (flag y) x y

abbrev pub on_pair : PairEntry → Spot → ℕ
on_pair entry p = between entry p.cur p.next

-- its value in the first row; 0 in others
abbrev pub at_first : RowEntry → Spot → ℕ
at_first entry p = if p.row == 0 then on_row entry p else 0

abbrev pub at_end : ℕ → Option (List ℕ) → ℕ
at_end value None = value
at_end value (Some y) = 0

-- its value in the last row; 0 in others
abbrev pub at_last : RowEntry → Spot → ℕ
at_last entry p = at_end (on_row entry p) p.next

-- a family of values, from number 0 on
unfoldable pub family : ℕ → (ℕ → ℕ) → List ℕ
family zero value = []
family (suc n) value = value 0 ∷ family n (λ j. value (suc j))

-- the first value of a list that is not 0, with its number, where the numbers count up from this one
abbrev pub first_fault_of : ℕ → List ℕ → Option (ℕ × ℕ)
first_fault_of number [] = None
first_fault_of number (v ∷ vs) = if v == 0 then first_fault_of (number + 1) vs else Some (number, v)

-- the value of this number, where the first of the list has number 1; 0 outside
unfoldable pub at_number : List ℕ → ℕ → ℕ
at_number values zero = 0
at_number values (suc n) = slice_index values n

-- the first of two answers that there is
abbrev pub or_next : Option (ℕ × ℕ) → Option (ℕ × ℕ) → Option (ℕ × ℕ)
or_next None later = later
or_next (Some fault) later = Some fault
