-- A line of a source as it is shown, with a mark under a place of it (docs/SHOW.md, "why").
use Rattle.std.specs.Prelude.{ℕ, ◌-◌, nat_le, ◌==◌, ◌&&◌, if◌then◌else◌, List, [], ◌++◌, codes, map, replicate, slice_index, slice_index_or, take}
use Rattle.std.specs.List.{slice_split}

-- of a line so many bytes are shown
abbrev pub most_shown : ℕ
most_shown = 200

-- the line of this number, counted from 1, without its line feed
abbrev pub line_at : List ℕ → ℕ → List ℕ
line_at text line = slice_index_or (slice_split (λ b. b == 10) text) (line - 1) []

-- the byte at a column of it, counted from 1
abbrev pub byte_at : List ℕ → ℕ → ℕ → ℕ
byte_at text line column = slice_index (line_at text line) (column - 1)

-- a tab is shown as a space, so that columns stay, and any other byte that is not printed as ?
abbrev pub shown_byte : ℕ → ℕ
shown_byte b = if nat_le 32 b && nat_le b 126 then b else if b == 9 then 32 else 63

-- a mark under a column, where that is shown
abbrev pub mark_line : ℕ → List ℕ
mark_line column = if nat_le column most_shown then replicate (column - 1) 32 ++ codes "^\n" else []

-- the line of a place, and the mark under it
abbrev pub shown_line : List ℕ → ℕ → ℕ → List ℕ
shown_line text line column = map shown_byte (take most_shown (line_at text line)) ++ codes "\n" ++ mark_line column
