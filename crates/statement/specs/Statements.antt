-- What the text of a statement says, and the text that is written of it (docs/FORMATS.md, "Statements").
use Rattle.std.specs.Prelude.{ℕ, ◌&&◌, nat_eq, nat_le, not, true, if◌then◌else◌, List, [], ◌∷◌, ◌++◌, length, codes, Bool, Option, None, option_map, option_and_then, Result, Ok, Err}
use Rattle.std.specs.List.{list_any}
use Rattle.std.specs.Option.{ok_or}
use Rattle.serde_json.specs.Data.{Data, Items}
use Rattle.vm_field.specs.Limits.{least_depth, most_inputs, most_kernel, most_outputs}
use Rattle.vm_field.specs.WordText.{word_hex, word_of_hex}
use Rattle.vm_state.specs.declared.statement.Statement.{Statement}
use Rattle.statement.specs.declared.refusal.TextCause.{TextCause}
use Rattle.statement.specs.declared.refusal.TextCause.TheVariants.{NotJson, Shape, Element, Digest, Count, Repeated}
use Rattle.statement.specs.Causes.{and_then}
use Rattle.statement.specs.ToJson.{listed}
use Rattle.statement.specs.Values.{value_of, has_keys, numbers_at, elements_of, text_at, texts_at, words_of}
use lib.Pointwise.{pointwise}

-- what is said to be proved of a run
pub record Stated : Type 0 where
  pub digest : List ℕ
  pub inputs : List ℕ  -- top first
  pub kernel : List (List ℕ)
  pub outputs : List ℕ  -- top first

-- a text, two arrays of numbers and one of texts
pub record Parts : Type 0 where
  pub digest : List ℕ
  pub inputs : Items
  pub kernel : Items
  pub outputs : Items

-- the parts of an object of exactly these keys
abbrev pub parts_of : Data → Option Parts
parts_of value =
    if has_keys 4 value then option_and_then (λ digest. option_and_then (λ inputs. option_and_then (λ kernel.
    option_map (λ outputs. record { digest = digest; inputs = inputs; kernel = kernel; outputs = outputs })
    (numbers_at (codes "outputs") value)) (texts_at (codes "kernel") value)) (numbers_at (codes "inputs") value))
    (text_at (codes "digest") value) else None

-- no word stands in the list twice
abbrev pub are_distinct : List (List ℕ) → Bool
are_distinct [] = true
are_distinct (word ∷ words) = not (list_any (pointwise nat_eq word) words) && are_distinct words

abbrev pub has_counts : Stated → Bool
has_counts claim =
    nat_le (length claim.inputs) most_inputs && nat_le (length claim.kernel) most_kernel
    && nat_le least_depth (length claim.outputs) && nat_le (length claim.outputs) most_outputs

-- the claim, where its lists have good lengths, and none of its kernel's words comes twice
abbrev pub counted : Stated → Result Stated TextCause
counted claim = if has_counts claim then (if are_distinct claim.kernel then Ok claim else Err Repeated) else Err Count

-- what the parts say, or the first cause that they have
abbrev pub claim_from : Parts → Result Stated TextCause
claim_from parts =
    and_then (ok_or (elements_of parts.inputs) Element) (λ inputs.
    and_then (ok_or (elements_of parts.outputs) Element) (λ outputs.
    and_then (ok_or (word_of_hex parts.digest) Digest) (λ digest.
    and_then (ok_or (words_of parts.kernel) Digest) (λ kernel.
    counted (record { digest = digest; inputs = inputs; kernel = kernel; outputs = outputs })))))

-- what a value says, or the first cause that it has
abbrev pub claim_by : Data → Result Stated TextCause
claim_by value = and_then (ok_or (parts_of value) Shape) claim_from

-- what a text says, or the first cause that it has
unfoldable pub statement_of : List ℕ → Result Stated TextCause
statement_of bytes = and_then (ok_or (value_of bytes) NotJson) claim_by

-- words' texts in quotation marks, with commas between
abbrev pub words_listed : List (List ℕ) → List ℕ
words_listed [] = []
words_listed (w ∷ []) = 34 ∷ word_hex w ++ 34 ∷ []
words_listed (w ∷ v ∷ ws) = 34 ∷ word_hex w ++ 34 ∷ 44 ∷ words_listed (v ∷ ws)

-- the one text that is written
unfoldable pub statement_text : Stated → List ℕ
statement_text claim =
    codes "{\"digest\":\"" ++ word_hex claim.digest ++ codes "\",\"inputs\":[" ++ listed claim.inputs ++ codes "],\"kernel\":["
    ++ words_listed claim.kernel ++ codes "],\"outputs\":[" ++ listed claim.outputs ++ codes "]}"

abbrev pub stated_of : Statement → Stated
stated_of s = record { digest = s.digest; inputs = s.inputs; kernel = s.kernel; outputs = s.outputs }
