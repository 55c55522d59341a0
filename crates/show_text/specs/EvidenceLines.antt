-- A line of evidence, as it is told: a batch by its operations, any other one as it stands (docs/SHOW.md).
use Rattle.std.specs.Prelude.{ℕ, ◌==◌, Bool, false, ◌&&◌, ◌||◌, if◌then◌else◌, List, [], ◌∷◌, ◌++◌, length, codes, Option, Some, None, is_some, option_map, option_and_then}
use Rattle.std.specs.List.{flat_map, list_all, slice_split}
use Rattle.std.specs.Str.{bytes_eq}
use Rattle.vm_field.specs.Decimal.{element_of}
use Rattle.vm_field.specs.WordText.{word_of_hex}
use Rattle.decimal_text.specs.Decimals.{element_text}
use Rattle.vm_ops.specs.Codes.{text_of_op}
use Rattle.vm_ops.specs.declared.item.Item.{Item}
use Rattle.op_pack.specs.Reading.{reading}
use Rattle.show_text.specs.declared.form.Form.{Form}
use Rattle.show_text.specs.declared.form.Form.TheVariants as form

-- what stands behind the first word of a line of a tree
abbrev pub block_form : List ℕ → Option Form
block_form word =
    if bytes_eq word (codes "batch") then Some form.Batch
    else if bytes_eq word (codes "span") || bytes_eq word (codes "dyn") then Some (form.Numbers 1)
    else if bytes_eq word (codes "opaque") then Some form.Digest
    else if bytes_eq word (codes "join") || bytes_eq word (codes "split") || bytes_eq word (codes "loop") then Some (form.Numbers 0)
    else if bytes_eq word (codes "call") || bytes_eq word (codes "syscall") then Some (form.Numbers 0)
    else None

-- of another line
abbrev pub head_form : List ℕ → Option Form
head_form word =
    if bytes_eq word (codes "run") || bytes_eq word (codes "ran") then Some (form.Numbers 0)
    else if bytes_eq word (codes "cycles") || bytes_eq word (codes "link") then Some (form.Numbers 1)
    else if bytes_eq word (codes "pair") then Some (form.Numbers 2)
    else if bytes_eq word (codes "tape") then Some form.Tape
    else if bytes_eq word (codes "clash") then Some form.Clash
    else None

-- by the first word of a line, what stands behind it; none where no line begins so
abbrev pub form_by : Option Form → List ℕ → Option Form
form_by (Some form) word = Some form
form_by None word = head_form word

abbrev pub form_of : List ℕ → Option Form
form_of word = form_by (block_form word) word

-- the canonical decimal of an element
abbrev pub is_number : List ℕ → Bool
is_number text = is_some (element_of text)

-- `file A file B` or `file A node N`
abbrev pub are_places : List ℕ → List ℕ → List ℕ → List ℕ → Bool
are_places file a other b =
    bytes_eq file (codes "file") && is_number a && (bytes_eq other (codes "file") || bytes_eq other (codes "node")) && is_number b

abbrev pub is_clash : List (List ℕ) → Bool
is_clash (file ∷ a ∷ other ∷ b ∷ []) = are_places file a other b
is_clash words = false

-- the text of a word
abbrev pub is_digest : List (List ℕ) → Bool
is_digest (text ∷ []) = is_some (word_of_hex text)
is_digest words = false

-- the words are those of the form; of a batch more is asked
abbrev pub has_form : Form → List (List ℕ) → Bool
has_form (form.Numbers count) words = (length words == count) && list_all is_number words
has_form form.Tape words = list_all is_number words
has_form form.Digest words = is_digest words
has_form form.Clash words = is_clash words
has_form form.Batch words = false

-- the elements that the words write, if each writes one
abbrev pub elements_of : List (List ℕ) → Option (List ℕ)
elements_of [] = Some []
elements_of (word ∷ words) = option_and_then (λ element. option_map (λ later. element ∷ later) (elements_of words)) (element_of word)

-- the immediate of a PUSH behind its name
abbrev pub immediate_text : Option ℕ → List ℕ
immediate_text None = []
immediate_text (Some value) = element_text value

abbrev pub item_text : Item → List ℕ
item_text item = 32 ∷ text_of_op item.op ++ immediate_text item.imm

abbrev pub items_line : List Item → List ℕ
items_line items = codes "batch" ++ flat_map item_text items ++ codes "\n"

-- eight elements that have a reading (docs/MACHINE.md, "Batches")
abbrev pub told_batch : Option (List ℕ) → Option (List ℕ)
told_batch None = None
told_batch (Some elements) = if length elements == 8 then option_map items_line (reading elements) else None

abbrev pub told_as : List ℕ → List (List ℕ) → Option Form → Option (List ℕ)
told_as line words None = None
told_as line words (Some form.Batch) = told_batch (elements_of words)
told_as line words (Some form) = if has_form form words then Some (line ++ codes "\n") else None

-- by the words of a line, the first and those behind it
abbrev pub told_by : List ℕ → List (List ℕ) → Option (List ℕ)
told_by line [] = None
told_by line (word ∷ words) = told_as line words (form_of word)

-- a line without its line feed, as it is told with one; none where it is no line of evidence
unfoldable pub told_line : List ℕ → Option (List ℕ)
told_line line = told_by line (slice_split (λ b. b == 32) line)
