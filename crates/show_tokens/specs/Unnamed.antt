-- What is told of a token whose first part is neither a word of the grammar nor an instruction's name.
use Rattle.std.specs.Prelude.{ℕ, Bool, if◌then◌else◌, List, codes}
use Rattle.std.specs.Str.{bytes_eq}
use Rattle.masm_tree.specs.declared.terminal.Header.{Header}
use Rattle.show_tokens.specs.Foreign.{comment_line, has_semicolon, is_number, is_slashes, public_line, pushed_line, run_line, separator_line}
use Rattle.show_tokens.specs.OtherNames.{other_name_line}
use Rattle.show_tokens.specs.Paths.{names_procedure}

-- UnknownInstruction
abbrev pub unnamed_line : Bool → List Header → List ℕ → List ℕ → List ℕ
unnamed_line kernel procedures token first =
    if is_slashes token then comment_line
    else if has_semicolon token then separator_line
    else if is_number token then pushed_line token
    else if names_procedure kernel procedures first then run_line kernel first
    else if bytes_eq first (codes "pub") then public_line kernel
    else other_name_line first
