-- What the words behind the program's name ask for (docs/SHOW.md).
use Rattle.std.specs.Prelude.{ℕ, nat_le, if◌then◌else◌, List, [], ◌∷◌, codes, Option, Some, None, option_and_then}
use Rattle.std.specs.Str.{bytes_eq}
use Rattle.air_kit.specs.declared.trace.TableName.{TableName}
use Rattle.cmd_words.specs.Words.{is_form, name_at, number_at, optional_name}
use Rattle.cmd_kit.specs.Asked.{limit_in}
use Rattle.show_app.specs.Tables.{table_named}

pub data Shown : Type 0 where
  nothing : Shown  -- the words are of no command
  -- the tables of a table file and the operations of its run
  run : (table : List ℕ) → Shown
  -- the rows of a table of it, from one to another
  rows : (table : List ℕ) (name : TableName) (first last : ℕ) → Shown
  -- why it is refused
  explain : (params table statement : List ℕ) → Shown
  -- the lines of evidence
  evidence : (file : List ℕ) → Shown
  -- the cycles of a run within a limit
  cycles : (params source inputs : List ℕ) (kernel : Option (List ℕ)) (limit : ℕ) → Shown
  -- why a source is refused
  reason : (source : List ℕ) (kernel : Option (List ℕ)) → Shown

-- the greatest number that a row of a table may have
abbrev pub last_row : ℕ
last_row = 4194303

-- the table that stands as this positional
abbrev pub table_at : ℕ → List (List ℕ) → Option TableName
table_at i words = option_and_then table_named (name_at i words)

abbrev pub run_of : Option (List ℕ) → Shown
run_of (Some table) = run table
run_of None = nothing

-- whatever rows there are
abbrev pub all_rows_of : Option (List ℕ) → Option TableName → Shown
all_rows_of (Some table) (Some name) = rows table name 0 last_row
all_rows_of table name = nothing

-- the one of this number
abbrev pub one_row_of : Option (List ℕ) → Option TableName → Option ℕ → Shown
one_row_of (Some table) (Some name) (Some number) = rows table name number number
one_row_of table name number = nothing

-- the first row is not behind the last one
abbrev pub rows_of : Option (List ℕ) → Option TableName → Option ℕ → Option ℕ → Shown
rows_of (Some table) (Some name) (Some first) (Some last) = if nat_le first last then rows table name first last else nothing
rows_of table name first last = nothing

abbrev pub explain_of : Option (List ℕ) → Option (List ℕ) → Option (List ℕ) → Shown
explain_of (Some params) (Some table) (Some statement) = explain params table statement
explain_of params table statement = nothing

abbrev pub evidence_of : Option (List ℕ) → Shown
evidence_of (Some file) = evidence file
evidence_of None = nothing

abbrev pub cycles_of : Option (List ℕ) → Option (List ℕ) → Option (List ℕ) → Option (Option (List ℕ)) → Option ℕ → Shown
cycles_of (Some params) (Some source) (Some inputs) (Some kernel) (Some limit) = cycles params source inputs kernel limit
cycles_of params source inputs kernel limit = nothing

abbrev pub reason_of : Option (List ℕ) → Option (Option (List ℕ)) → Shown
reason_of (Some source) (Some kernel) = reason source kernel
reason_of source kernel = nothing

-- `show` and the name of a table file
abbrev pub run_words : List (List ℕ) → Shown
run_words words = if is_form 1 [] words then run_of (name_at 0 words) else nothing

-- `show`, the name of a table file, and that of a table
abbrev pub all_rows_words : List (List ℕ) → Shown
all_rows_words words = if is_form 2 [] words then all_rows_of (name_at 0 words) (table_at 1 words) else nothing

-- `show`, the name of a table file, that of a table, and the number of a row
abbrev pub one_row_words : List (List ℕ) → Shown
one_row_words words =
    if is_form 3 [] words then one_row_of (name_at 0 words) (table_at 1 words) (number_at 0 last_row 2 words) else nothing

-- `show`, the name of a table file, that of a table, and two numbers of rows
abbrev pub rows_words : List (List ℕ) → Shown
rows_words words =
    if is_form 4 [] words
    then rows_of (name_at 0 words) (table_at 1 words) (number_at 0 last_row 2 words) (number_at 0 last_row 3 words) else nothing

-- `explain` and the names of the parameters, of a table file and of a statement
abbrev pub explain_words : List (List ℕ) → Shown
explain_words words = if is_form 3 [] words then explain_of (name_at 0 words) (name_at 1 words) (name_at 2 words) else nothing

-- `evidence` and the name of a file
abbrev pub evidence_words : List (List ℕ) → Shown
evidence_words words = if is_form 1 [] words then evidence_of (name_at 0 words) else nothing

-- `trace` and the names of the parameters, of a source and of inputs, a kernel's where it is given, and a limit of cycles
abbrev pub cycles_words : List (List ℕ) → Shown
cycles_words words =
    if is_form 3 (codes "--kernel" ∷ codes "--limit" ∷ []) words
    then cycles_of (name_at 0 words) (name_at 1 words) (name_at 2 words) (optional_name (codes "--kernel") words) (limit_in words) else nothing

-- `why` and the name of a source, and a kernel's where it is given
abbrev pub reason_words : List (List ℕ) → Shown
reason_words words = if is_form 1 (codes "--kernel" ∷ []) words then reason_of (name_at 0 words) (optional_name (codes "--kernel") words) else nothing

-- the first of two that is asked for
abbrev pub or_else : Shown → Shown → Shown
or_else nothing other = other
or_else asked other = asked

-- `show` and rows of a table: all, one, or those from one to another
abbrev pub table_words : List (List ℕ) → Shown
table_words words = or_else (all_rows_words words) (or_else (one_row_words words) (rows_words words))

abbrev pub show_words : List (List ℕ) → Shown
show_words words = or_else (run_words words) (table_words words)

unfoldable pub shown : List (List ℕ) → Shown
shown [] = nothing
shown (command ∷ words) =
    if bytes_eq command (codes "show") then show_words words
    else if bytes_eq command (codes "explain") then explain_words words
    else if bytes_eq command (codes "evidence") then evidence_words words
    else if bytes_eq command (codes "trace") then cycles_words words
    else if bytes_eq command (codes "why") then reason_words words
    else nothing
