-- How tokens are written, in words (docs/ASSEMBLY.md, "Grammar" and "Instructions").
use Rattle.std.specs.Prelude.{ℕ, Bool, true, false, ◌==◌, ◌||◌, ◌&&◌, not, nat_le, if◌then◌else◌, List, [], ◌∷◌, codes, decimal, drop, find, is_none, slice_index, slice_index_or, Option, Some, None, option_map}
use Rattle.std.specs.List.{list_any}
use Rattle.std.specs.Str.{bytes_eq}
use Rattle.masm_instr.specs.Instructions.{is_in_range}
use Rattle.masm_instr.specs.Names.{name_of}
use Rattle.masm_instr.specs.Table.{form_of, takes}
use Rattle.masm_instr.specs.declared.form.Form.{Form}
use Rattle.masm_reading.specs.declared.constant.Const.{Const}
use Rattle.masm_reading.specs.Reading.{parameter_of}
use Rattle.show_tokens.specs.Words.{sentence, word}

-- a token that begins a procedure
abbrev pub is_procedure : List ℕ → Bool
is_procedure first = bytes_eq first (codes "proc") || bytes_eq first (codes "export")

-- a token that names a procedure
abbrev pub is_use : List ℕ → Bool
is_use first =
    bytes_eq first (codes "exec") || bytes_eq first (codes "call") || bytes_eq first (codes "syscall") || bytes_eq first (codes "procref")

-- the parameter of a token of two parts
abbrev pub parameter : List (List ℕ) → List ℕ
parameter more = slice_index_or more 0 []

-- how a token of the grammar is written, by its first part; none where its numbers are those of an instruction
abbrev pub written : List ℕ → Option (List ℕ)
written first =
    if bytes_eq first (codes "const") then Some (codes ".NAME=v, with a name in upper case and a number")
    else if is_procedure first
    then Some (codes ".name or with .n behind, with a name in lower case and a number of locals")
    else if bytes_eq first (codes "if") || bytes_eq first (codes "while") then Some (codes ".true")
    else if is_use first then Some (codes ".name, with a name in lower case")
    else if bytes_eq first (codes "begin") || bytes_eq first (codes "else") || bytes_eq first (codes "end") || bytes_eq first (codes "dynexec")
    then Some (codes " alone")
    else None

-- the line of a token that is written otherwise
abbrev pub written_line : List ℕ → List ℕ → List ℕ
written_line first form = sentence (word first ∷ codes " is written " ∷ word first ∷ form ∷ [])

-- the numbers that a repeat takes
abbrev pub repeat_form : Form
repeat_form = takes 1 1 true 1 10000

-- the numbers that a token takes, by its first part; none but those of instructions and of repeat
abbrev pub form_by : List ℕ → Option Form
form_by first = if bytes_eq first (codes "repeat") then Some repeat_form else option_map form_of (name_of first)

-- parameters of a wrong count: none are wanted, or so many, or some from one number to another
abbrev pub none_line : List ℕ → ℕ → List ℕ
none_line first count = sentence (word first ∷ codes " wants no parameter, not " ∷ decimal count ∷ [])

abbrev pub exact_line : List ℕ → ℕ → ℕ → List ℕ
exact_line first least count = sentence (word first ∷ codes " wants " ∷ decimal least ∷ codes " parameter, not " ∷ decimal count ∷ [])

abbrev pub between_line : List ℕ → ℕ → ℕ → ℕ → List ℕ
between_line first least most count =
    sentence
    (word first ∷ codes " wants " ∷ decimal least ∷ codes " to " ∷ decimal most ∷ codes " parameters, not " ∷ decimal count ∷ [])

abbrev pub count_line : List ℕ → Form → ℕ → List ℕ
count_line first form count =
    if form.most == 0 then none_line first count
    else if form.least == form.most then exact_line first form.least count
    else between_line first form.least form.most count

-- whether a part begins as a constant's name does
abbrev pub is_capital : List ℕ → Bool
is_capital part = nat_le 65 (slice_index part 0) && nat_le (slice_index part 0) 90

-- * + - /
abbrev pub is_arithmetic : ℕ → Bool
is_arithmetic byte = (byte == 42) || (byte == 43) || (byte == 45) || (byte == 47)

-- whether one of these stands behind the first byte of a part, as in A+1
abbrev pub has_arithmetic : List ℕ → Bool
has_arithmetic part = list_any is_arithmetic (drop 1 part)

-- what a part is that gives no number: with arithmetic or without, a capital first or not, where constants may stand or not
abbrev pub missing_text : Bool → Bool → Bool → List ℕ
missing_text arithmetic capital constants =
    if arithmetic && constants then codes " is no number: a parameter is one number or one constant, without arithmetic"
    else if not capital then codes " is no number"
    else if constants then codes " is not defined: constants are defined before their first use"
    else codes " is no number, and no constant may stand here"

abbrev pub no_number_line : Form → List ℕ → List ℕ
no_number_line form part = sentence (word part ∷ missing_text (has_arithmetic part) (is_capital part) form.constants ∷ [])

-- the first part that gives no number
abbrev pub first_no_number : List Const → Form → List (List ℕ) → Option (List ℕ)
first_no_number consts form parts = find (λ part. is_none (parameter_of consts form.constants part)) parts

-- whether a part gives a number that is not in the form's range
abbrev pub is_outside : Form → Option ℕ → Bool
is_outside form None = false
is_outside form (Some n) = not (is_in_range form n)

-- the first part that gives such a number
abbrev pub first_outside : List Const → Form → List (List ℕ) → Option (List ℕ)
first_outside consts form parts = find (λ part. is_outside form (parameter_of consts form.constants part)) parts

-- a part that gives a number outside of a range: other than the one number, or none from one to another
abbrev pub one_line : List ℕ → ℕ → List ℕ → List ℕ
one_line first low part =
    sentence (word first ∷ codes " takes " ∷ decimal low ∷ codes " alone, and " ∷ word part ∷ codes " is another number" ∷ [])

abbrev pub span_line : List ℕ → ℕ → ℕ → List ℕ → List ℕ
span_line first low high part =
    sentence
    (word first ∷ codes " takes numbers from " ∷ decimal low ∷ codes " to " ∷ decimal high ∷ codes ", and " ∷ word part
    ∷ codes " is none of them" ∷ [])

abbrev pub range_line : List ℕ → Form → List ℕ → List ℕ
range_line first form part =
    if form.low == form.high then one_line first form.low part else span_line first form.low form.high part
