-- What is told of a token of a wrong form, by its parts (docs/SHOW.md, "why").
use Rattle.std.specs.Prelude.{ℕ, Bool, if◌then◌else◌, List, [], length, Option, Some, None}
use Rattle.std.specs.List.{list_any}
use Rattle.masm_instr.specs.Instructions.{is_count}
use Rattle.masm_instr.specs.declared.form.Form.{Form}
use Rattle.masm_reading.specs.declared.constant.Const.{Const}
use Rattle.masm_tree.specs.declared.terminal.Header.{Header}
use Rattle.show_tokens.specs.Foreign.{error_line, expression_line, has_expression, has_word, if_false_line, is_error, is_if_false, word_line}
use Rattle.show_tokens.specs.Forms.{count_line, first_no_number, form_by, no_number_line, parameter, written, written_line}
use Rattle.show_tokens.specs.Paths.{has_path, path_line, pieces_of}

-- a part that gives no number, where each other one gives one
abbrev pub part_line : Form → Option (List ℕ) → List ℕ
part_line form None = []
part_line form (Some part) = no_number_line form part

-- parameters of the wrong count, or one that gives no number
abbrev pub counted_line : List Const → List ℕ → List (List ℕ) → Option Form → List ℕ
counted_line consts first more None = []
counted_line consts first more (Some form) =
    if is_count form (length more) then part_line form (first_no_number consts form more) else count_line first form (length more)

-- parameters of a wrong form: a word, an error code, or others
abbrev pub parameters_line : List Const → List ℕ → List (List ℕ) → List ℕ
parameters_line consts first more =
    if has_word first more then word_line
    else if list_any is_error more then error_line
    else counted_line consts first more (form_by first)

-- a token of a wrong form, by how it is written
abbrev pub form_line : List Const → List ℕ → List (List ℕ) → Option (List ℕ) → List ℕ
form_line consts first more (Some form) = written_line first form
form_line consts first more None = parameters_line consts first more

-- a token of a wrong form, by its parts: if.false, a constant that is not one number, or another one
abbrev pub plain_line : List Const → List ℕ → List (List ℕ) → List ℕ
plain_line consts first more =
    if is_if_false first more then if_false_line
    else if has_expression first more then expression_line
    else form_line consts first more (written first)

-- a token of a wrong form, by its parts: a use with a path, or another one
abbrev pub parts_line : Bool → List Header → List Const → List ℕ → List (List ℕ) → List ℕ
parts_line kernel procedures consts first more =
    if has_path first more then path_line kernel procedures first (pieces_of (parameter more)) else plain_line consts first more
