-- Instructions that have another name in other assemblies, and their names here (docs/DIFFERENCES.md, "Instructions of other names").
use Rattle.std.specs.Prelude.{ℕ, Bool, ◌&&◌, if◌then◌else◌, List, [], ◌∷◌, ◌++◌, codes, drop, is_some, take, Option, Some, None}
use Rattle.std.specs.Str.{bytes_eq}
use Rattle.masm_instr.specs.Names.{name_of}
use Rattle.show_tokens.specs.Words.{sentence, word}

-- what stands behind u32unchecked_, and else behind u32
abbrev pub rest_of : List ℕ → List ℕ
rest_of name = if bytes_eq (take 13 name) (codes "u32unchecked_") then drop 13 name else drop 3 name

abbrev pub checked_name : List ℕ → List ℕ
checked_name name = codes "u32checked_" ++ rest_of name

-- whether a name that begins with u32 is that of an instruction with u32checked_
abbrev pub is_checked : List ℕ → Bool
is_checked name = bytes_eq (take 3 name) (codes "u32") && is_some (name_of (checked_name name))

-- names that are other by themselves: what is written elsewhere, and what here
abbrev pub other_names : List (List ℕ × List ℕ)
other_names =
    (codes "u32assert2", codes "u32assert.2")
    ∷ (codes "mem_loadw_be", codes "mem_loadw")
    ∷ (codes "mem_storew_be", codes "mem_storew")
    ∷ (codes "loc_loadw_be", codes "loc_loadw")
    ∷ (codes "loc_storew_be", codes "loc_storew")
    ∷ []

-- the name here of the first of these that is written so
abbrev pub listed_name : List (List ℕ × List ℕ) → List ℕ → Option (List ℕ)
listed_name [] name = None
listed_name ((other, here) ∷ more) name = if bytes_eq name other then Some here else listed_name more name

abbrev pub no_name_line : List ℕ → List ℕ
no_name_line first = sentence (codes "there is no instruction " ∷ word first ∷ [])

abbrev pub here_line : List ℕ → List ℕ → List ℕ
here_line first here = sentence (codes "there is no instruction " ∷ word first ∷ codes ": here it is " ∷ here ∷ [])

abbrev pub listed_line : List ℕ → Option (List ℕ) → List ℕ
listed_line first None = no_name_line first
listed_line first (Some here) = here_line first here

-- a name that no instruction has: with u32checked_, where there is such an instruction, and else by the list
abbrev pub other_name_line : List ℕ → List ℕ
other_name_line first = if is_checked first then here_line first (checked_name first) else listed_line first (listed_name other_names first)
