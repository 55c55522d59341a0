-- A reader of one word at a time: the options and places that words use, each with its text.
use Rattle.std.specs.Prelude.{ℕ, suc, ◌||◌, Bool, List, [], ◌∷◌, ◌++◌, Option, Some, None, is_some, option_map, find, not, if◌then◌else◌}
use Rattle.std.specs.Str.{bytes_eq}
use Rattle.std.specs.List.{list_any}
use Rattle.clap.specs.Lexer.{long_of, short_of}
use Rattle.clap.specs.Walk.{Row, Text, has_row, with_values, without}
use Rattle.clap.specs.declared.builder.value_parser.Reading.TheVariants.{AsWritten}
use Rattle.clap.specs.declared.parser.matches.ValueSource.TheVariants.{CommandLine}

-- the option of a name, and the name of a place, counted from 1
pub record Form : Type 0 where
  pub option : Text → Option Text
  pub place : ℕ → Option Text

-- an option or a place, with its text
abbrev pub Use : Type 0
Use = Text × Text

abbrev pub plus : Text → Text → Option (List Use) → Option (List Use)
plus id v rest = option_map (λ us. (id, v) ∷ us) rest

abbrev pub in_place : Option Text → Text → Option (List Use) → Option (List Use)
in_place None v rest = None
in_place (Some id) v rest = plus id v rest

abbrev pub is_dashes : Text → Bool
is_dashes word = bytes_eq word (45 ∷ 45 ∷ [])

-- `--`, and what begins with a dash and goes on
abbrev pub clap_flag : Text → Bool
clap_flag word = is_dashes word || (is_some (long_of word) || is_some (short_of word))

-- the words after `--`
unfoldable pub read_places : Form → ℕ → List Text → Option (List Use)
read_places f k [] = Some []
read_places f k (word ∷ rest) = in_place (f.place k) word (read_places f (suc k) rest)

abbrev pub option_read : Option Text → Option Text → Option (List Use) → (Text → Option (List Use)) → Option (List Use)
option_read None v next value = None
option_read (Some id) (Some v) next value = plus id v next
option_read (Some id) None next value = value id

abbrev pub word_read : Option (Text × Option Text) → Option Text → Form → ℕ → Text → Option (List Use) → (Text → Option (List Use)) → Option (List Use)
    → Option (List Use)
word_read (Some p) short f k word next value placed = option_read (f.option p.0) p.1 next value
word_read None (Some flags) f k word next value placed = None
word_read None None f k word next value placed = in_place (f.place k) word placed

abbrev pub value_read : Text → Text → Option (List Use) → Option (List Use)
value_read id word rest = if clap_flag word then None else plus id word rest

-- the words from the k-th place on, where an option may wait for its text
unfoldable pub read : Form → Option Text → ℕ → List Text → Option (List Use)
read f None k [] = Some []
read f (Some id) k [] = None
read f None k (word ∷ rest) =
    if is_dashes word then read_places f k rest
    else word_read (long_of word) (short_of word) f k word (read f None k rest) (λ id. read f (Some id) k rest) (read f None (suc k) rest)
read f (Some id) k (word ∷ rest) = value_read id word (read f None k rest)

-- what is found for one more text
abbrev pub with_text : Text → Text → List Row → List Row
with_text id v rows = with_values id AsWritten CommandLine (v ∷ []) (without id rows)

-- the texts join the rows, each name once
unfoldable pub adds : List Row → List Use → Option (List Row)
adds rows [] = Some rows
adds rows (u ∷ us) = if has_row u.0 rows then None else adds (with_text u.0 u.1 rows) us

abbrev pub has_use : Text → List Use → Bool
has_use id us = list_any (λ u. bytes_eq u.0 id) us

-- the text of an option or a place
abbrev pub text_of : Text → List Use → Option Text
text_of id us = option_map (λ u. u.1) (find (λ u. bytes_eq u.0 id) us)

-- more uses join those before, each name once
unfoldable pub joined : List Use → List Use → Option (List Use)
joined seen [] = Some seen
joined seen (u ∷ us) = if has_use u.0 seen then None else joined (seen ++ u ∷ []) us

abbrev pub with_needs : List Text → List Use → Option (List Use)
with_needs needs us = if list_any (λ id. not (has_use id us)) needs then None else Some us
