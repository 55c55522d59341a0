-- What is written otherwise in other assemblies, and how it is written here (docs/SHOW.md, "why").
use Rattle.std.specs.Prelude.{ℕ, Bool, false, ◌==◌, ◌&&◌, ◌||◌, nat_le, nat_lt, if◌then◌else◌, List, [], ◌∷◌, codes, drop, is_some, length, slice_index, slice_index_or, take, Option, Some, None}
use Rattle.std.specs.List.{list_all, list_any, slice_split}
use Rattle.std.specs.Str.{bytes_eq}
use Rattle.masm_instr.specs.declared.form.Form.{Form}
use Rattle.masm_reading.specs.Numbers.{number}
use Rattle.show_tokens.specs.Forms.{form_by, is_capital, parameter}
use Rattle.show_tokens.specs.Words.{sentence, word}

-- use.std::math::u64
abbrev pub imports_line : Bool → List ℕ
imports_line kernel =
    if kernel then sentence (codes "there are no imports, and a kernel has no library: it defines what it uses" ∷ [])
    else sentence (codes "there are no imports: the library's procedures are called by their names, as exec.u64_wrapping_add" ∷ [])

-- Unsupported; `exp` alone would take its exponent from the stack
abbrev pub unsupported_line : Bool → List ℕ → List ℕ
unsupported_line kernel first =
    if bytes_eq first (codes "use") then imports_line kernel
    else if bytes_eq first (codes "exp") then sentence (codes "exp is written with its exponent, as exp.5" ∷ [])
    else sentence (codes "this machine has no " ∷ word first ∷ [])

-- a token that begins with //
abbrev pub is_slashes : List ℕ → Bool
is_slashes token = bytes_eq (take 2 token) (codes "//")

abbrev pub comment_line : List ℕ
comment_line = sentence (codes "a comment begins with # and goes on to the end of its line" ∷ [])

-- a token in which a ; stands
abbrev pub has_semicolon : List ℕ → Bool
has_semicolon token = list_any (λ byte. byte == 59) token

abbrev pub separator_line : List ℕ
separator_line = sentence (codes "instructions are separated by blanks, not by ;, and a comment begins with #" ∷ [])

-- a text that is a number
abbrev pub is_number : List ℕ → Bool
is_number text = is_some (number text)

-- a number in place of an instruction: one to be pushed, or the parameter of the instruction before it
abbrev pub pushed_line : List ℕ → List ℕ
pushed_line token =
    sentence (codes "a number is pushed by push." ∷ word token ∷ codes ", and a parameter stands behind its instruction and a dot" ∷ [])

abbrev pub wants_number : Option Form → Bool
wants_number None = false
wants_number (Some form) = nat_lt 0 form.least

abbrev pub gives_number : Option (List ℕ) → Bool
gives_number None = false
gives_number (Some text) = is_number text

-- a token without the parameter that it wants, and a number behind it
abbrev pub is_apart : List ℕ → List (List ℕ) → Option (List ℕ) → Bool
is_apart first more next = (length more == 0) && wants_number (form_by first) && gives_number next

abbrev pub apart_line : List ℕ → List ℕ → List ℕ
apart_line first next =
    sentence (word first ∷ codes " wants its parameter behind a dot, as " ∷ word first ∷ codes "." ∷ word next ∷ [])

-- a procedure's name in place of an instruction; a kernel has no call
abbrev pub run_line : Bool → List ℕ → List ℕ
run_line kernel name =
    if kernel then sentence (word name ∷ codes " is a procedure: it is run by exec." ∷ word name ∷ [])
    else sentence (word name ∷ codes " is a procedure: it is run by exec." ∷ word name ∷ codes " or call." ∷ word name ∷ [])

-- pub proc f
abbrev pub public_line : Bool → List ℕ
public_line kernel =
    if kernel then sentence (codes "there is no pub: a procedure is proc.name, and one that programs may reach is export.name" ∷ [])
    else sentence (codes "there is no pub: a procedure is proc.name, and only a kernel has export" ∷ [])

-- proc f
abbrev pub name_apart_line : List ℕ → List ℕ → List ℕ
name_apart_line first next =
    sentence (word first ∷ codes " is written " ∷ word first ∷ codes ".name, as " ∷ word first ∷ codes "." ∷ word next ∷ [])

-- if.false
abbrev pub is_if_false : List ℕ → List (List ℕ) → Bool
is_if_false first more = bytes_eq first (codes "if") && (length more == 1) && bytes_eq (parameter more) (codes "false")

abbrev pub if_false_line : List ℕ
if_false_line = sentence (codes "there is no if.false: its body stands behind the else of an if.true" ∷ [])

-- ( ) * + - /
abbrev pub is_operator : ℕ → Bool
is_operator byte = (nat_le 40 byte && nat_le byte 43) || (byte == 45) || (byte == 47)

-- a text that begins as a constant's name does, or that has an operator
abbrev pub is_expression : List ℕ → Bool
is_expression text = is_capital text || list_any is_operator text

-- what stands between the = of a part
abbrev pub sides_of : List ℕ → List (List ℕ)
sides_of part = slice_split (λ byte. byte == 61) part

-- whether an expression stands behind the one =
abbrev pub is_computed : List (List ℕ) → Bool
is_computed sides = (length sides == 2) && is_expression (slice_index_or sides 1 [])

-- const.B=A+1
abbrev pub has_expression : List ℕ → List (List ℕ) → Bool
has_expression first more = bytes_eq first (codes "const") && (length more == 1) && is_computed (sides_of (parameter more))

abbrev pub expression_line : List ℕ
expression_line = sentence (codes "a constant is one number, without arithmetic and without another constant" ∷ [])

-- push.[1,2,3,4]
abbrev pub is_bracket : List ℕ → Bool
is_bracket part = slice_index part 0 == 91

-- a digit behind 0x, of either case
abbrev pub is_digit : ℕ → Bool
is_digit byte = (nat_le 48 byte && nat_le byte 57) || (nat_le 65 byte && nat_le byte 70) || (nat_le 97 byte && nat_le byte 102)

-- 0x and 64 digits behind it
abbrev pub is_long : List ℕ → Bool
is_long part = bytes_eq (take 2 part) (codes "0x") && (length part == 66) && list_all is_digit (drop 2 part)

-- a word in brackets, or one that is pushed as one number
abbrev pub has_word : List ℕ → List (List ℕ) → Bool
has_word first more = list_any is_bracket more || (bytes_eq first (codes "push") && list_any is_long more)

abbrev pub word_line : List ℕ
word_line = sentence (codes "a word is pushed as four numbers, as push.1.2.3.4" ∷ [])

-- assert.err=5
abbrev pub is_error : List ℕ → Bool
is_error part = bytes_eq part (codes "err") || bytes_eq (take 4 part) (codes "err=")

abbrev pub error_line : List ℕ
error_line = sentence (codes "there are no error codes: a trap tells its cause and its clock" ∷ [])
