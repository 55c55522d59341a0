-- What is written of inputs is their text, and gives them when it is read.
use Rattle.std.proofs.Common.{◌≡◌, ℕ, ◌<◌, ◌≤◌, List, [], ◌∷◌, ◌++◌, length, false, All, Some, Ok, refl, append_assoc, arith}
use Rattle.std.proofs.lemmas.Bool.Decides.{nat_tests}
use Rattle.std.specs.Str.{IsUtf8}
use Rattle.std.proofs.lemmas.Str.{is_utf8-from_IsUtf8}
use Rattle.serde_json.specs.Data.{Data, depth}
use Rattle.serde_json.specs.Read.{read}
use Rattle.serde_json.specs.Written.{compact_text, has_float}
use Rattle.serde_json.proofs.OnLiterals.{serde_json_on_literals}
use Rattle.vm_field.specs.Limits.{most_advice, most_inputs}
use Rattle.vm_field.specs.Field.{prime}
use Rattle.statement.specs.ToJson.{listed}
use Rattle.statement.proofs.Written.{items_have_float-numbers_of, items_depth-numbers_of, items_text-numbers_of, are_numbers-numbers_of, elements_of-numbers_of}
use Rattle.statement.specs.Inputs.{Given, given_by, inputs_of, inputs_text}
use Rattle.statement.specs.InputsJson.{inputs_data}

pub has_float-inputs_data : (stack advice : List ℕ) → has_float (inputs_data stack advice) ≡ false
has_float-inputs_data stack advice = rw (items_have_float-numbers_of advice, items_have_float-numbers_of stack) refl

pub depth-inputs_data : (stack advice : List ℕ) → depth (inputs_data stack advice) ≤ 127
depth-inputs_data stack advice = rw (items_depth-numbers_of advice, items_depth-numbers_of stack) (omega arith)

-- ---- the text

closed : (xs rest : List ℕ) → (listed xs ++ 93 ∷ []) ++ rest ≡ listed xs ++ 93 ∷ rest
closed xs rest = append_assoc (listed xs) (93 ∷ []) rest

pub compact_text-inputs_data : (stack advice : List ℕ) → compact_text (inputs_data stack advice) ≡ inputs_text stack advice
unfolding inputs_text serde_json_on_literals
compact_text-inputs_data stack advice =
    rw (items_text-numbers_of advice, items_text-numbers_of stack, closed advice, closed stack) (simp append_assoc)

-- ---- what is read of it

pub given_by-inputs_data : (stack advice : List ℕ) → All (λ x. x < prime) stack → All (λ x. x < prime) advice → length stack ≤ most_inputs
    → length advice ≤ most_advice
    → given_by (inputs_data stack advice) ≡ Ok (record { stack = stack; advice = advice })
unfolding serde_json_on_literals
given_by-inputs_data stack advice hs ha few short =
    rw (are_numbers-numbers_of stack, are_numbers-numbers_of advice, elements_of-numbers_of stack hs, elements_of-numbers_of advice ha)
    (grind (arith, nat_tests))

pub inputs_of-read : (bytes : List ℕ) (d : Data) (given : Given) → IsUtf8 bytes → read bytes ≡ Some d → given_by d ≡ Ok given
    → inputs_of bytes ≡ Ok given
unfolding inputs_of
inputs_of-read bytes d given text e by = rw (is_utf8-from_IsUtf8 bytes text, e) by
