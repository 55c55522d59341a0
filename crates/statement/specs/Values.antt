-- The JSON value of a text, and the texts and arrays within it (docs/FORMATS.md, "Inputs" and "Statements").
-- A value has each key once: where a text has it twice, the last of its values stays.
use Rattle.std.specs.Prelude.{ℕ, Bool, true, false, ◌==◌, ◌&&◌, is_some, if◌then◌else◌, List, [], ◌∷◌, Option, Some, None, option_map, option_and_then}
use Rattle.std.specs.Option.{option_map_or}
use Rattle.std.specs.Str.{is_utf8}
use Rattle.serde_json.specs.Data.{Data, Items, no_items, item}
use Rattle.serde_json.specs.Events.{members_len}
use Rattle.serde_json.specs.Find.{get, as_number, as_str, as_array, as_object, as_u64}
use Rattle.serde_json.specs.Read.{read}
use Rattle.vm_field.specs.Field.{element_from}
use Rattle.vm_field.specs.WordText.{word_of_hex}

-- the value of a text that is UTF-8 and JSON
abbrev pub value_of : List ℕ → Option Data
value_of bytes = if is_utf8 bytes then read bytes else None

-- an object of so many keys
abbrev pub has_keys : ℕ → Data → Bool
has_keys n value = option_map_or (λ members. members_len members == n) (as_object value) false

abbrev pub are_numbers : Items → Bool
are_numbers no_items = true
are_numbers (item value rest) = is_some (as_number value) && are_numbers rest

abbrev pub if_numbers : Items → Option Items
if_numbers items = if are_numbers items then Some items else None

-- what stands at a key, if it is an array of numbers
abbrev pub numbers_at : List ℕ → Data → Option Items
numbers_at key value = option_and_then if_numbers (option_and_then as_array (get key value))

-- The element that a value is, if it is one. JSON's whole numbers are those without a point, an exponent or a sign.
abbrev pub element_of : Data → Option ℕ
element_of value = option_and_then element_from (option_and_then as_u64 (as_number value))

-- the elements of an array, if each item is one
abbrev pub elements_of : Items → Option (List ℕ)
elements_of no_items = Some []
elements_of (item value rest) = option_and_then (λ x. option_map (λ xs. x ∷ xs) (elements_of rest)) (element_of value)

-- what stands at a key, if it is a text
abbrev pub text_at : List ℕ → Data → Option (List ℕ)
text_at key value = option_and_then as_str (get key value)

abbrev pub are_texts : Items → Bool
are_texts no_items = true
are_texts (item value rest) = is_some (as_str value) && are_texts rest

abbrev pub if_texts : Items → Option Items
if_texts items = if are_texts items then Some items else None

-- what stands at a key, if it is an array of texts
abbrev pub texts_at : List ℕ → Data → Option Items
texts_at key value = option_and_then if_texts (option_and_then as_array (get key value))

-- the word that a value is the text of, if it is one
abbrev pub word_in : Data → Option (List ℕ)
word_in value = option_and_then word_of_hex (as_str value)

-- the words of an array, if each item is the text of one
abbrev pub words_of : Items → Option (List (List ℕ))
words_of no_items = Some []
words_of (item value rest) = option_and_then (λ w. option_map (λ ws. w ∷ ws) (words_of rest)) (word_in value)
