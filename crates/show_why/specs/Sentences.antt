-- Sentences on refused tokens (docs/SHOW.md, "why"), with the facts of their places.
use Rattle.std.specs.Prelude.{ℕ, ◌==◌, Bool, true, false, ◌||◌, if◌then◌else◌, List, [], ◌∷◌, codes, decimal, find, slice_index_or, Option, Some, None, option_map, unwrap_or}
use Rattle.std.specs.List.{slice_split}
use Rattle.std.specs.Str.{bytes_eq}
use Rattle.masm_lex.specs.declared.list.Token.{Token}
use Rattle.masm_lex.specs.Tokens.{text_of}
use Rattle.masm_reading.specs.declared.constant.Const.{Const}
use Rattle.masm_tree.specs.declared.terminal.Header.{Header}
use Rattle.masm_tree.specs.declared.terminal.Role.{Role}
use Rattle.masm_tree.specs.declared.terminal.Role.TheVariants as roles
use Rattle.masm_tree.specs.declared.tree.Position.{Position}
use Rattle.show_tokens.specs.Foreign.{apart_line, has_semicolon, is_apart, name_apart_line, separator_line}
use Rattle.show_tokens.specs.Forms.{is_procedure, parameter}
use Rattle.show_tokens.specs.Parts.{parts_line}
use Rattle.show_tokens.specs.Words.{sentence, word}
use Rattle.show_why.specs.Alone.{is_malformed, lacks_name}
use Rattle.show_why.specs.Scenes.{Scene, innermost, last_header}
use Rattle.show_why.specs.Sights.{Sight, first_of, more_of}

-- Lexical
abbrev pub byte_line : ℕ → List ℕ
byte_line byte = sentence (codes "the byte " ∷ decimal byte ∷ codes " is neither a blank nor one of a token, which are 33 to 126" ∷ [])

-- KernelBody
abbrev pub kept_line : List ℕ → List ℕ
kept_line first = sentence (codes "a kernel has no " ∷ word first ∷ [])

-- TooManyExports
abbrev pub exports_line : List ℕ
exports_line = sentence (codes "a kernel exports at most 255 procedures" ∷ [])

-- TooManyOps
abbrev pub operations_line : List ℕ
operations_line = sentence (codes "its tree has more than 524288 operations" ∷ [])

-- the source ends early
abbrev pub end_line : List ℕ → Option Token → List ℕ
end_line text None = sentence (codes "a program has a body between begin and end" ∷ [])
end_line text (Some token) =
    sentence
    (codes "the block opened by " ∷ word (text_of text token) ∷ codes " at " ∷ decimal token.line ∷ codes ":" ∷ decimal token.column
    ∷ codes " is not closed" ∷ [])

abbrev pub is_main : Role → Bool
is_main roles.Proc = false
is_main roles.Export = false
is_main roles.Main = true

-- whether begin has come
abbrev pub has_begun : Option Header → Bool
has_begun None = false
has_begun (Some header) = is_main header.role

-- the export of a procedure of this name, in a program
abbrev pub export_line : List ℕ → List ℕ
export_line name =
    sentence (codes "only a kernel has export: a kernel is named behind --kernel, and a program's procedure is proc." ∷ word name ∷ [])

-- a token that does not fit, where no block is open and begin has not come
abbrev pub early_line : List ℕ → List (List ℕ) → List ℕ
early_line first more =
    if bytes_eq first (codes "export") then export_line (parameter more)
    else sentence (word first ∷ codes " may not stand outside of begin and of procedures" ∷ [])

-- a token that does not fit, where no block is open
abbrev pub outside_line : List ℕ → List (List ℕ) → Bool → List ℕ
outside_line first more begun =
    if begun then sentence (codes "nothing may stand behind the end of begin" ∷ []) else early_line first more

-- a token that does not fit in a block that is open
abbrev pub inside_line : List ℕ → List ℕ → Token → List ℕ
inside_line text first token =
    sentence
    (word first ∷ codes " may not stand in the block opened by " ∷ word (text_of text token) ∷ codes " at " ∷ decimal token.line ∷ codes ":"
    ∷ decimal token.column ∷ [])

-- a token that does not fit
abbrev pub misplaced_line : List ℕ → List ℕ → List (List ℕ) → Scene → Option Token → List ℕ
misplaced_line text first more scene None = outside_line first more (has_begun (last_header scene))
misplaced_line text first more scene (Some token) = inside_line text first token

-- a token of a wrong form: with a ;, without the number or the name that stands behind it, or another one
abbrev pub malformed_line : Bool → Sight → List ℕ → List ℕ
malformed_line kernel sight token =
    if has_semicolon token then separator_line
    else if is_apart (first_of sight) (more_of sight) sight.next then apart_line (first_of sight) (unwrap_or sight.next [])
    else if lacks_name kernel sight.scene (first_of sight) (more_of sight) sight.next
    then name_apart_line (first_of sight) (unwrap_or sight.next [])
    else parts_line kernel sight.procedures sight.scene.context.consts (first_of sight) (more_of sight)

-- Syntax
abbrev pub syntax_line : Bool → List ℕ → Sight → Option (List ℕ) → List ℕ
syntax_line kernel text sight None = end_line text (innermost sight.scene)
syntax_line kernel text sight (Some token) =
    if is_malformed kernel sight.scene token then malformed_line kernel sight token
    else misplaced_line text (first_of sight) (more_of sight) sight.scene (innermost sight.scene)

-- a local's number that is not below the count of locals
abbrev pub local_line : List ℕ → ℕ → Option Header → List ℕ
local_line part locals None = []
local_line part locals (Some header) =
    sentence (word part ∷ codes " is no local of " ∷ word header.name ∷ codes ", which has " ∷ decimal locals ∷ [])

-- LocalsRange
abbrev pub locals_line : List ℕ → List (List ℕ) → Scene → List ℕ
locals_line first more scene =
    if is_procedure first then sentence (codes "a procedure has at most 65535 locals" ∷ [])
    else local_line (parameter more) scene.context.locals (last_header scene)

-- a token that begins a procedure, or the body of the program
abbrev pub is_header : List ℕ → Bool
is_header first = is_procedure first || bytes_eq first (codes "begin")

-- TooDeep, of a whole tree or of a statement
abbrev pub deep_text : Bool → List ℕ
deep_text header = if header then codes "its tree has more than 1024 blocks on one path" else codes "256 blocks are open here already"

abbrev pub deep_line : List ℕ → List ℕ
deep_line first = sentence (deep_text (is_header first) ∷ [])

-- Duplicate: where the name was defined first
abbrev pub defined_line : List ℕ → Position → List ℕ
defined_line name at =
    sentence (word name ∷ codes " is defined already, at " ∷ decimal at.line ∷ codes ":" ∷ decimal at.column ∷ [])

abbrev pub first_line : List ℕ → Option Position → List ℕ
first_line name None = []
first_line name (Some at) = defined_line name at

abbrev pub constant_place : List Const → List ℕ → Option Position
constant_place consts name = option_map (λ c. record { line = c.line; column = c.column }) (find (λ c. bytes_eq c.name name) consts)

abbrev pub procedure_place : List Header → List ℕ → Option Position
procedure_place headers name = option_map (λ h. h.at) (find (λ h. bytes_eq h.name name) headers)

-- the name in NAME=v
abbrev pub constant_name : List ℕ → List ℕ
constant_name part = slice_index_or (slice_split (λ b. b == 61) part) 0 []

abbrev pub duplicate_line : List ℕ → List (List ℕ) → Scene → List ℕ
duplicate_line first more scene =
    if bytes_eq first (codes "const")
    then first_line (constant_name (parameter more)) (constant_place scene.context.consts (constant_name (parameter more)))
    else first_line (parameter more) (procedure_place scene.headers (parameter more))

-- UnknownProcedure
abbrev pub unknown_line : Bool → List ℕ → List ℕ
unknown_line true name = sentence (codes "this kernel defines no procedure " ∷ word name ∷ [])
unknown_line false name = sentence (codes "neither this source nor the library defines a procedure " ∷ word name ∷ [])

-- NotInKernel
abbrev pub exporter : Bool → List ℕ
exporter given = if given then codes "the kernel exports no procedure " else codes "no kernel is given that exports a procedure "

abbrev pub not_exported_line : Bool → List ℕ → List ℕ
not_exported_line given name = sentence (exporter given ∷ word name ∷ [])

-- Recursive, by the procedure in which the token stands
abbrev pub back_line : List ℕ → List (List ℕ) → Option Header → List ℕ
back_line first more None = []
back_line first more (Some header) =
    if bytes_eq first (codes "dynexec")
    then sentence (codes "a procedure that a procref names reaches " ∷ word header.name ∷ codes ", in which this dynexec stands" ∷ [])
    else sentence (word (parameter more) ∷ codes " reaches " ∷ word header.name ∷ codes ", in which it is used" ∷ [])
