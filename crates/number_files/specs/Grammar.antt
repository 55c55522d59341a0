-- The text of the numbers that are hashed (docs/FORMATS.md): lines of one element each, a positive multiple of eight of them.
use Rattle.std.specs.Prelude.{ℕ, Bool, zero, suc, ◌+◌, ◌%◌, ◌==◌, ◌&&◌, nat_le, if◌then◌else◌, List, [], ◌∷◌, length, Option, Some, None, Result, Ok, Err}
use Rattle.rpo_hash.specs.ParamText.{one_element}
use Rattle.number_files.specs.declared.numbers.NumbersCause.TheVariants as cause
use Rattle.number_files.specs.declared.numbers.NumbersError.{NumbersError}

abbrev pub with_first : ℕ → Result (List ℕ) NumbersError → Result (List ℕ) NumbersError
with_first element (Ok elements) = Ok (element ∷ elements)
with_first element (Err e) = Err e

-- the next element in front of those behind it
abbrev pub one_more : (List ℕ → Result (List ℕ) NumbersError) → NumbersError → Option (ℕ × List ℕ) → Result (List ℕ) NumbersError
one_more later wrong None = Err wrong
one_more later wrong (Some (element, behind)) = with_first element (later behind)

-- the elements of the lines from line n on, or the first line that is wrong; there are at most k lines
unfoldable pub elements_from : ℕ → ℕ → List ℕ → Result (List ℕ) NumbersError
elements_from zero n bytes = Ok []
elements_from (suc k) n [] = Ok []
elements_from (suc k) n (b ∷ bs) = one_more (elements_from k (n + 1)) (record { line = n; cause = cause.Number }) (one_element (b ∷ bs))

-- 8 to 8,192, a multiple of eight
abbrev pub is_good_count : ℕ → Bool
is_good_count n = (nat_le 8 n && nat_le n 8192) && (n % 8 == 0)

abbrev pub counted : Result (List ℕ) NumbersError → Result (List ℕ) NumbersError
counted (Ok elements) = if is_good_count (length elements) then Ok elements else Err (record { line = length elements + 1; cause = cause.Count })
counted (Err e) = Err e

-- the elements that a text writes, or what is wrong with it; a line has at least one byte
abbrev pub numbers_of : List ℕ → Result (List ℕ) NumbersError
numbers_of bytes = counted (elements_from (length bytes) 1 bytes)
