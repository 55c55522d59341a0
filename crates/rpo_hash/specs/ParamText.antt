-- The text of the constants: 168 lines, each the canonical decimal of an element and a line feed.
use Rattle.std.specs.Prelude.{ℕ, zero, suc, ◌+◌, ◌==◌, if◌then◌else◌, List, [], ◌∷◌, Option, Some, None, ok_or, option_map, option_and_then, Result, Ok, Err, decimal, ◌++◌}
use Rattle.vm_field.specs.Decimal.{element_of}
use Rattle.vm_field.specs.Limits.{number_of_constants}
use Rattle.rpo_hash.specs.declared.params.ParamCause.TheVariants.{Ended, Number, Extra}
use Rattle.rpo_hash.specs.declared.params.ParamError.{ParamError}

-- the first line without its line feed, and what is behind it; none where no line feed follows
unfoldable pub one_line : List ℕ → Option (List ℕ × List ℕ)
one_line [] = None
one_line (b ∷ bs) = if b == 10 then Some ([], bs) else option_map (λ l. (b ∷ l.0, l.1)) (one_line bs)

-- the element that the first line writes, and what is behind the line
unfoldable pub one_element : List ℕ → Option (ℕ × List ℕ)
one_element bytes = option_and_then (λ l. option_map (λ e. (e, l.1)) (element_of l.0)) (one_line bytes)

-- the next step, where there is no refusal
abbrev pub and_then : {A B : Type 0} → (A → Result B ParamError) → Result A ParamError → Result B ParamError
and_then f (Ok x) = f x
and_then f (Err e) = Err e

-- line n: its element, and what is behind
unfoldable pub element_line : ℕ → List ℕ → Result (ℕ × List ℕ) ParamError
element_line n [] = Err (record { line = n; cause = Ended })
element_line n (b ∷ bs) = ok_or (one_element (b ∷ bs)) (record { line = n; cause = Number })

-- k lines from line n on: their elements, and what is behind
unfoldable pub element_lines : ℕ → ℕ → List ℕ → Result (List ℕ × List ℕ) ParamError
element_lines zero n bytes = Ok ([], bytes)
element_lines (suc k) n bytes =
    and_then (λ first. and_then (λ later. Ok (first.0 ∷ later.0, later.1)) (element_lines k (n + 1) first.1)) (element_line n bytes)

-- nothing is left where line n would start
abbrev pub nothing_left : ℕ → List ℕ → Result (Unit {0}) ParamError
nothing_left n [] = Ok tt
nothing_left n (b ∷ bs) = Err (record { line = n; cause = Extra })

-- the constants that a text writes, or its first line that is wrong
unfoldable pub parameters_of : List ℕ → Result (List ℕ) ParamError
parameters_of bytes =
    and_then (λ read. and_then (λ _. Ok read.0) (nothing_left (number_of_constants + 1) read.1)) (element_lines number_of_constants 1 bytes)

-- the text that is written of constants: a line for each
unfoldable pub text_of : List ℕ → List ℕ
text_of [] = []
text_of (e ∷ es) = decimal e ++ (10 ∷ text_of es)
