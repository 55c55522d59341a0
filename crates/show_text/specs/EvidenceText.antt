-- Evidence, line by line as it is told, or the number of the first line that is none of evidence (docs/SHOW.md).
use Rattle.std.specs.Prelude.{ℕ, zero, suc, ◌+◌, List, [], ◌∷◌, ◌++◌, length, Option, Some, None, option_map, option_and_then, Result, Ok, Err}
use Rattle.rpo_hash.specs.ParamText.{one_line}
use Rattle.show_text.specs.EvidenceLines.{told_line}

-- the first line as it is told, and what is behind it
unfoldable pub first_told : List ℕ → Option (List ℕ × List ℕ)
first_told bytes = option_and_then (λ l. option_map (λ told. (told, l.1)) (told_line l.0)) (one_line bytes)

abbrev pub with_first : List ℕ → Result (List ℕ) ℕ → Result (List ℕ) ℕ
with_first first (Ok later) = Ok (first ++ later)
with_first first (Err line) = Err line

-- line n in front of those behind it
abbrev pub one_more : (List ℕ → Result (List ℕ) ℕ) → ℕ → Option (List ℕ × List ℕ) → Result (List ℕ) ℕ
one_more later n None = Err n
one_more later n (Some (told, behind)) = with_first told (later behind)

-- the lines from line n on, of which there are at most k, or the number of the first one that is wrong
unfoldable pub told_from : ℕ → ℕ → List ℕ → Result (List ℕ) ℕ
told_from zero n bytes = Ok []
told_from (suc k) n [] = Ok []
told_from (suc k) n (b ∷ bs) = one_more (told_from k (n + 1)) n (first_told (b ∷ bs))

-- all lines, or the number of the first one that is wrong, from 1; a line has at least one byte
abbrev pub told_evidence : List ℕ → Result (List ℕ) ℕ
told_evidence bytes = told_from (length bytes) 1 bytes
