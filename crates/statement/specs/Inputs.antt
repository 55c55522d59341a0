-- What the text of inputs gives, and the text that is written of them (docs/FORMATS.md, "Inputs").
use Rattle.std.specs.Prelude.{ℕ, ◌&&◌, nat_le, if◌then◌else◌, List, ◌++◌, length, codes, Bool, Option, None, option_map, option_and_then, Result, Ok, Err}
use Rattle.std.specs.Option.{ok_or}
use Rattle.vm_field.specs.Limits.{most_advice, most_inputs}
use Rattle.serde_json.specs.Data.{Data, Items}
use Rattle.vm_state.specs.declared.inputs.Inputs.{Inputs}
use Rattle.statement.specs.declared.refusal.TextCause.{TextCause}
use Rattle.statement.specs.declared.refusal.TextCause.TheVariants.{NotJson, Shape, Element, Count}
use Rattle.statement.specs.Causes.{and_then}
use Rattle.statement.specs.ToJson.{listed}
use Rattle.statement.specs.Values.{value_of, has_keys, numbers_at, elements_of}

-- the elements of the two arrays
pub record Given : Type 0 where
  pub stack : List ℕ  -- top first
  pub advice : List ℕ

-- two arrays of numbers
pub record Arrays : Type 0 where
  pub stack : Items
  pub advice : Items

-- the arrays of an object of exactly these keys
abbrev pub arrays_of : Data → Option Arrays
arrays_of value =
    if has_keys 2 value then option_and_then (λ stack. option_map (λ advice. record { stack = stack; advice = advice })
    (numbers_at (codes "advice") value)) (numbers_at (codes "stack") value) else None

abbrev pub given_from : Arrays → Option Given
given_from arrays =
    option_and_then (λ stack. option_map (λ advice. record { stack = stack; advice = advice }) (elements_of arrays.advice))
    (elements_of arrays.stack)

abbrev pub is_short : Given → Bool
is_short given = nat_le (length given.stack) most_inputs && nat_le (length given.advice) most_advice

-- what a value gives, or the first cause that it has
abbrev pub given_by : Data → Result Given TextCause
given_by value =
    and_then (ok_or (arrays_of value) Shape) (λ arrays.
    and_then (ok_or (given_from arrays) Element) (λ given.
    if is_short given then Ok given else Err Count))

-- what a text gives, or the first cause that it has
unfoldable pub inputs_of : List ℕ → Result Given TextCause
inputs_of bytes = and_then (ok_or (value_of bytes) NotJson) given_by

-- the one text that is written
unfoldable pub inputs_text : List ℕ → List ℕ → List ℕ
inputs_text stack advice = codes "{\"advice\":[" ++ listed advice ++ codes "],\"stack\":[" ++ listed stack ++ codes "]}"

abbrev pub given_of : Inputs → Given
given_of inputs = record { stack = inputs.stack; advice = inputs.advice }
