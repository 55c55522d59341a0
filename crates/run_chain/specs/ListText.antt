-- Which lines are a list, and the text of a list: the grammar as it is written, apart from how a text is read.
use Rattle.std.specs.Prelude.{◌≡◌, ◌≢◌, ◌↔◌, ◌≤◌, ℕ, true, false, List, [], ◌∷◌, ◌++◌, length, Ok}
use Rattle.std.specs.List.{AllByRecursion, flat_map, join_with_byte, list_all}
use Rattle.vm_field.specs.FileName.{is_file_name}
use Rattle.run_chain.specs.Names.{Given, names_of_words, roles_for, with_roles, has_clash}
use Rattle.run_chain.specs.Lists.{most_links, links_of}

-- the names with one space between them, and a line feed
abbrev pub line_text : List (List ℕ) → List ℕ
line_text names = join_with_byte 32 names ++ 10 ∷ []

abbrev pub list_text : List (List (List ℕ)) → List ℕ
list_text lines = flat_map line_text lines

-- so many names of files
pub record IsLine (count : ℕ) (names : List (List ℕ)) : Type 0 where
  pub many : length names ≡ count
  pub names_of_files : list_all is_file_name names ≡ true

-- 1 to 64 lines, each of as many names as there are roles, and no two names among these and those of the words clash
pub record IsList (given : Given) (lines : List (List (List ℕ))) : Type 0 where
  pub some : lines ≢ []
  pub few : length lines ≤ most_links
  pub each : AllByRecursion (IsLine (length (roles_for given.evidence))) lines
  pub apart : has_clash (names_of_words given ++ flat_map (with_roles (roles_for given.evidence)) lines) ≡ false

-- a text is read as these lines exactly where they are a list and it is their text
abbrev pub ReadsItsText : Type 0
ReadsItsText = (given : Given) (bytes : List ℕ) (lines : List (List (List ℕ)))
    → (links_of given bytes ≡ Ok lines) ↔ (IsList given lines × (bytes ≡ list_text lines))
