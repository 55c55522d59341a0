-- Numbers out of the range that their token takes (docs/SHOW.md, "why").
use Rattle.std.specs.Prelude.{ℕ, if◌then◌else◌, List, [], ◌∷◌, codes, Option, Some, None}
use Rattle.std.specs.Str.{bytes_eq}
use Rattle.masm_instr.specs.declared.form.Form.{Form}
use Rattle.masm_reading.specs.declared.constant.Const.{Const}
use Rattle.show_tokens.specs.Forms.{first_outside, form_by, range_line}
use Rattle.show_tokens.specs.Words.{sentence}

-- NumberRange, of a parameter
abbrev pub outside_part_line : List ℕ → Form → Option (List ℕ) → List ℕ
outside_part_line first form None = []
outside_part_line first form (Some part) = range_line first form part

abbrev pub numbers_line : List Const → List ℕ → List (List ℕ) → Option Form → List ℕ
numbers_line consts first more None = []
numbers_line consts first more (Some form) = outside_part_line first form (first_outside consts form more)

-- NumberRange
abbrev pub number_line : List Const → List ℕ → List (List ℕ) → List ℕ
number_line consts first more =
    if bytes_eq first (codes "const") then sentence (codes "a constant is at most 18446744069414584320" ∷ [])
    else numbers_line consts first more (form_by first)
