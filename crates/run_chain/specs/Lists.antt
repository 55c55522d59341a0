-- Lists of links: one to 64 lines, each of them names with one space between them and a line feed behind them.
use Rattle.std.specs.Prelude.{ℕ, ◌+◌, ◌==◌, ◌&&◌, nat_lt, if◌then◌else◌, List, [], ◌∷◌, ◌++◌, length, Option, Some, None, Result, Ok, Err}
use Rattle.std.specs.List.{list_all, slice_split}
use Rattle.vm_field.specs.FileName.{is_file_name}
use Rattle.run_chain.specs.declared.naming.Role.{Role}
use Rattle.run_chain.specs.declared.refusal.LinkCause.{LinkCause}
use Rattle.run_chain.specs.declared.refusal.LinkCause.TheVariants as cause
use Rattle.run_chain.specs.Names.{Given, Named, names_of_words, roles_for, with_roles, has_clash}

-- the lines of a list
abbrev pub most_links : ℕ
most_links = 64

-- a line of a text: what a line feed ends, or bytes that none ends
pub data Line : Type 0 where
  Ended : (text : List ℕ) → Line
  Open : (text : List ℕ) → Line

-- a byte in front of the first line
abbrev pub longer : ℕ → List Line → List Line
longer b [] = Open (b ∷ []) ∷ []
longer b (Ended text ∷ lines) = Ended (b ∷ text) ∷ lines
longer b (Open text ∷ lines) = Open (b ∷ text) ∷ lines

-- the lines of a text
unfoldable pub lines_of : List ℕ → List Line
lines_of [] = []
lines_of (b ∷ bs) = if b == 10 then Ended [] ∷ lines_of bs else longer b (lines_of bs)

-- the names of a line, if it is so many with one space between them
unfoldable pub names_in : ℕ → Line → Option (List (List ℕ))
names_in count (Open text) = None
names_in count (Ended text) =
    if (length (slice_split (λ b. b == 32) text) == count) && list_all is_file_name (slice_split (λ b. b == 32) text)
    then Some (slice_split (λ b. b == 32) text)
    else None

abbrev pub without_clash : List Role → List Named → Option (List (List ℕ)) → Result (List (List ℕ)) LinkCause
without_clash roles before None = Err cause.Line
without_clash roles before (Some names) = if has_clash (before ++ with_roles roles names) then Err cause.Output else Ok names

-- the names of line n, which stands behind names with these roles, or the first of its causes
unfoldable pub line_at : List Role → ℕ → List Named → Line → Result (List (List ℕ)) LinkCause
line_at roles n before line =
    if nat_lt most_links n then Err cause.Count else without_clash roles before (names_in (length roles) line)

-- the first line that is wrong, from 1
pub record LinkFault : Type 0 where
  pub line : ℕ
  pub cause : LinkCause

abbrev pub Links : Type 0
Links = Result (List (List (List ℕ))) LinkFault

abbrev pub with_first : List (List ℕ) → Links → Links
with_first names (Ok lines) = Ok (names ∷ lines)
with_first names (Err fault) = Err fault

-- the names of line n in front of those behind it
abbrev pub one_more : (List (List ℕ) → Links) → ℕ → Result (List (List ℕ)) LinkCause → Links
one_more later n (Ok names) = with_first names (later names)
one_more later n (Err cause) = Err (record { line = n; cause = cause })

-- the names of the lines from line n on, or the first line that is wrong
unfoldable pub links_from : List Role → ℕ → List Named → List Line → Links
links_from roles n before [] = Ok []
links_from roles n before (line ∷ lines) =
    one_more (λ names. links_from roles (n + 1) (before ++ with_roles roles names) lines) n (line_at roles n before line)

abbrev pub some_lines : Given → List Line → Links
some_lines given [] = Err (record { line = 1; cause = cause.Count })
some_lines given (line ∷ lines) = links_from (roles_for given.evidence) 1 (names_of_words given) (line ∷ lines)

-- the names that the lines of a text have, line by line, or its first line that is wrong with the first of its causes
abbrev pub links_of : Given → List ℕ → Links
links_of given bytes = some_lines given (lines_of bytes)
