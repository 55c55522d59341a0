-- What the words behind the program's name ask for (docs/FORMATS.md).
use Rattle.std.specs.Prelude.{ℕ, Bool, not, ◌&&◌, if◌then◌else◌, List, [], ◌∷◌, codes, Option, Some, None, option_map, unwrap_or}
use Rattle.std.specs.List.{list_any}
use Rattle.std.specs.Str.{bytes_eq}
use Rattle.vm_field.specs.Limits.{most_cycles}
use Rattle.cmd_words.specs.Words.{is_form, name_at, number_at, optional_name, optional_number}
use Rattle.workloads.specs.Workloads.{most_turns}

-- the names of the files that `run` writes
pub record Outputs : Type 0 where
  pub table : List ℕ
  pub statement : List ℕ

-- the names of the files that `make` writes
pub record MadeNames : Type 0 where
  pub source : List ℕ
  pub inputs : List ℕ

pub data Asked : Type 0 where
  nothing : Asked  -- the words are of no command
  hash : (params numbers : List ℕ) → Asked
  assemble : (params source : List ℕ) (kernel : Option (List ℕ)) → Asked
  run : (params source inputs : List ℕ) (outputs : Outputs) (kernel : Option (List ℕ)) (limit : ℕ) → Asked
  check : (params table statement evidence : List ℕ) → Asked
  check_source : (params table statement evidence source : List ℕ) (kernel : Option (List ℕ)) → Asked
  make : (params : List ℕ) (turns : ℕ) (names : MadeNames) → Asked
  chain : (params list evidence : List ℕ) → Asked
  runs : (params list : List ℕ) → Asked
  member : (params table statement evidence : List ℕ) (depth : ℕ) → Asked

abbrev pub hash_of_names : Option (List ℕ) → Option (List ℕ) → Asked
hash_of_names (Some params) (Some numbers) = hash params numbers
hash_of_names params numbers = nothing

-- `hash` and the names of the parameters and of the numbers
abbrev pub hash_words : List (List ℕ) → Asked
hash_words words = if is_form 2 [] words then hash_of_names (name_at 0 words) (name_at 1 words) else nothing

abbrev pub assemble_of_names : Option (List ℕ) → Option (List ℕ) → Option (Option (List ℕ)) → Asked
assemble_of_names (Some params) (Some source) (Some kernel) = assemble params source kernel
assemble_of_names params source kernel = nothing

-- `assemble`, the names of the parameters and of the source, and a kernel's where it is given
abbrev pub assemble_words : List (List ℕ) → Asked
assemble_words words =
    if is_form 2 (codes "--kernel" ∷ []) words
    then assemble_of_names (name_at 0 words) (name_at 1 words) (optional_name (codes "--kernel") words) else nothing

-- the limit of cycles that the words give, the most of a run where they give none
abbrev pub limit_in : List (List ℕ) → Option ℕ
limit_in words = option_map (λ limit. unwrap_or limit most_cycles) (optional_number 1 most_cycles (codes "--limit") words)

-- no other name is that of an output
abbrev pub is_apart : List ℕ → List (List ℕ) → Bool
is_apart output names = not (list_any (bytes_eq output) names)

abbrev pub given_name : Option (List ℕ) → List (List ℕ)
given_name None = []
given_name (Some name) = name ∷ []

-- no output has the name of the other one or of a file that is read
abbrev pub are_apart : Outputs → List (List ℕ) → Bool
are_apart outputs names = is_apart outputs.table (outputs.statement ∷ names) && is_apart outputs.statement names

abbrev pub outputs_named : Option (Option (List ℕ)) → Option (Option (List ℕ)) → Option Outputs
outputs_named (Some (Some table)) (Some (Some statement)) = Some (record { table = table; statement = statement })
outputs_named table statement = None

-- the outputs that the words name
abbrev pub outputs_in : List (List ℕ) → Option Outputs
outputs_in words = outputs_named (optional_name (codes "--out") words) (optional_name (codes "--statement") words)

abbrev pub run_apart : List ℕ → List ℕ → List ℕ → Outputs → Option (List ℕ) → ℕ → Asked
run_apart params source inputs outputs kernel limit =
    if are_apart outputs (params ∷ source ∷ inputs ∷ given_name kernel) then run params source inputs outputs kernel limit else nothing

abbrev pub run_of_names : Option (List ℕ) → Option (List ℕ) → Option (List ℕ) → Option Outputs → Option (Option (List ℕ)) → Option ℕ → Asked
run_of_names (Some params) (Some source) (Some inputs) (Some outputs) (Some kernel) (Some limit) = run_apart params source inputs outputs kernel limit
run_of_names params source inputs outputs kernel limit = nothing

-- `run`, the names of the parameters, the source and the inputs, those of the table file and the statement, which no other name is,
-- a kernel's where it is given, and a limit of cycles
abbrev pub run_words : List (List ℕ) → Asked
run_words words =
    if is_form 3 (codes "--out" ∷ codes "--statement" ∷ codes "--kernel" ∷ codes "--limit" ∷ []) words
    then run_of_names (name_at 0 words) (name_at 1 words) (name_at 2 words) (outputs_in words)
    (optional_name (codes "--kernel") words) (limit_in words)
    else nothing

-- the most pieces that a trace is checked in
abbrev pub most_pieces : ℕ
most_pieces = 64

-- In how many pieces the words have the trace checked, if they say so. What is asked does not depend on it.
abbrev pub pieces_in : List (List ℕ) → Option (Option ℕ)
pieces_in words = optional_number 1 most_pieces (codes "--pieces") words

-- `check` of the files alone, or against a source, with a kernel where it is given; a kernel alone has no meaning
abbrev pub check_against : List ℕ → List ℕ → List ℕ → List ℕ → Option (List ℕ) → Option (List ℕ) → Asked
check_against params table statement evidence None None =
    if is_apart evidence (params ∷ table ∷ statement ∷ []) then check params table statement evidence else nothing
check_against params table statement evidence None (Some kernel) = nothing
check_against params table statement evidence (Some source) kernel =
    if is_apart evidence (params ∷ table ∷ statement ∷ source ∷ given_name kernel)
    then check_source params table statement evidence source kernel else nothing

abbrev pub check_of_names : Option (List ℕ) → Option (List ℕ) → Option (List ℕ) → Option (Option (List ℕ)) → Option (Option ℕ)
    → Option (Option (List ℕ)) → Option (Option (List ℕ)) → Asked
check_of_names (Some params) (Some table) (Some statement) (Some (Some evidence)) (Some pieces) (Some source) (Some kernel) =
    check_against params table statement evidence source kernel
check_of_names params table statement evidence pieces source kernel = nothing

-- `check`, the names of the parameters, the table file and the statement, that of the evidence, which no other name is, a number of
-- pieces where it is given, and the names of a source and its kernel where they are
abbrev pub check_words : List (List ℕ) → Asked
check_words words =
    if is_form 3 (codes "--evidence" ∷ codes "--pieces" ∷ codes "--source" ∷ codes "--kernel" ∷ []) words
    then check_of_names (name_at 0 words) (name_at 1 words) (name_at 2 words) (optional_name (codes "--evidence") words) (pieces_in words)
    (optional_name (codes "--source") words) (optional_name (codes "--kernel") words)
    else nothing

abbrev pub made_names : Option (Option (List ℕ)) → Option (Option (List ℕ)) → Option MadeNames
made_names (Some (Some source)) (Some (Some inputs)) = Some (record { source = source; inputs = inputs })
made_names source inputs = None

-- the files that the words name for what is made
abbrev pub made_names_in : List (List ℕ) → Option MadeNames
made_names_in words = made_names (optional_name (codes "--source") words) (optional_name (codes "--inputs") words)

-- neither of them has the name of the other one or of the parameters
abbrev pub are_made_apart : MadeNames → List ℕ → Bool
are_made_apart names params = is_apart names.source (names.inputs ∷ params ∷ []) && is_apart names.inputs (params ∷ [])

abbrev pub make_apart : List ℕ → ℕ → MadeNames → Asked
make_apart params turns names = if are_made_apart names params then make params turns names else nothing

abbrev pub make_of_names : Option (List ℕ) → Option ℕ → Option MadeNames → Asked
make_of_names (Some params) (Some turns) (Some names) = make_apart params turns names
make_of_names params turns names = nothing

-- `make`, the name of the parameters, a number of turns, and the names of the source and of the inputs, which no other name is
abbrev pub make_words : List (List ℕ) → Asked
make_words words =
    if is_form 2 (codes "--source" ∷ codes "--inputs" ∷ []) words
    then make_of_names (name_at 0 words) (number_at 1 most_turns 1 words) (made_names_in words) else nothing

abbrev pub chain_of_names : Option (List ℕ) → Option (List ℕ) → Option (Option (List ℕ)) → Option (Option ℕ) → Asked
chain_of_names (Some params) (Some list) (Some (Some evidence)) (Some pieces) =
    if is_apart evidence (params ∷ list ∷ []) then chain params list evidence else nothing
chain_of_names params list evidence pieces = nothing

-- `chain`, the names of the parameters and of the list, that of the evidence, which no other name is, and a number of pieces where it is
-- given
abbrev pub chain_words : List (List ℕ) → Asked
chain_words words =
    if is_form 2 (codes "--evidence" ∷ codes "--pieces" ∷ []) words
    then chain_of_names (name_at 0 words) (name_at 1 words) (optional_name (codes "--evidence") words) (pieces_in words) else nothing

abbrev pub runs_of_names : Option (List ℕ) → Option (List ℕ) → Asked
runs_of_names (Some params) (Some list) = runs params list
runs_of_names params list = nothing

-- `runs` and the names of the parameters and of the list
abbrev pub runs_words : List (List ℕ) → Asked
runs_words words = if is_form 2 [] words then runs_of_names (name_at 0 words) (name_at 1 words) else nothing

-- the most steps of a path
abbrev pub most_depth : ℕ
most_depth = 64

-- how many steps of a path the words give, if they give a number
abbrev pub depth_in : List (List ℕ) → Option (Option ℕ)
depth_in words = optional_number 1 most_depth (codes "--depth") words

abbrev pub member_apart : List ℕ → List ℕ → List ℕ → List ℕ → ℕ → Asked
member_apart params table statement evidence depth =
    if is_apart evidence (params ∷ table ∷ statement ∷ []) then member params table statement evidence depth else nothing

abbrev pub member_of_names : Option (List ℕ) → Option (List ℕ) → Option (List ℕ) → Option (Option ℕ) → Option (Option (List ℕ))
    → Option (Option ℕ) → Asked
member_of_names (Some params) (Some table) (Some statement) (Some (Some depth)) (Some (Some evidence)) (Some pieces) =
    member_apart params table statement evidence depth
member_of_names params table statement depth evidence pieces = nothing

-- `member`, the names of the parameters, the table file and the statement, a number of steps, the name of the evidence, which no other
-- name is, and a number of pieces where it is given
abbrev pub member_words : List (List ℕ) → Asked
member_words words =
    if is_form 3 (codes "--depth" ∷ codes "--evidence" ∷ codes "--pieces" ∷ []) words
    then member_of_names (name_at 0 words) (name_at 1 words) (name_at 2 words) (depth_in words) (optional_name (codes "--evidence") words)
    (pieces_in words)
    else nothing

unfoldable pub asked : List (List ℕ) → Asked
asked [] = nothing
asked (command ∷ words) =
    if bytes_eq command (codes "check") then check_words words
    else if bytes_eq command (codes "hash") then hash_words words
    else if bytes_eq command (codes "assemble") then assemble_words words
    else if bytes_eq command (codes "run") then run_words words
    else if bytes_eq command (codes "make") then make_words words
    else if bytes_eq command (codes "chain") then chain_words words
    else if bytes_eq command (codes "runs") then runs_words words
    else if bytes_eq command (codes "member") then member_words words
    else nothing
