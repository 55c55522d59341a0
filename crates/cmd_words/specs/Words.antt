-- The form of the words behind a command: positionals and options in any order (docs/FORMATS.md).
use Rattle.std.specs.Prelude.{ℕ, ◌+◌, ◌-◌, ◌==◌, Bool, false, ◌&&◌, not, nat_le, if◌then◌else◌, List, [], ◌∷◌, take, drop, codes, map, position, Option, Some, None, is_some, option_map, option_and_then}
use Rattle.std.specs.List.{list_any}
use Rattle.std.specs.Option.{option_or}
use Rattle.std.specs.Str.{bytes_eq}
use Rattle.std.specs.declared.vec.Vec.{Vec}
use Rattle.std.specs.declared.alloc.Global.{Global}
use Rattle.vm_field.specs.Decimal.{element_of}
use Rattle.vm_field.specs.FileName.{is_file_name}

pub data CommandPart : Type 0 where
  positional : (word : List ℕ) → CommandPart
  given : (name value : List ℕ) → CommandPart  -- an option; the name with its dashes
  lacking : CommandPart  -- an option whose value is missing

-- what the next word may be
pub data Mode : Type 0 where
  anything : Mode
  positionals : Mode  -- behind `--`
  value_comes : (name : List ℕ) → Mode  -- behind `--x`

abbrev pub begins_with_dashes : List ℕ → Bool
begins_with_dashes [] = false
begins_with_dashes (a ∷ []) = false
begins_with_dashes (a ∷ b ∷ bytes) = (a == 45) && (b == 45)

-- the place of the first `=`
abbrev pub sign_in : List ℕ → Option ℕ
sign_in word = position (λ b. b == 61) word

-- `--x=V` is an option with its value; behind `--x` the value comes as a word of its own
abbrev pub option_part : List ℕ → Option ℕ → Option CommandPart
option_part word None = None
option_part word (Some sign) = Some (given (take sign word) (drop (sign + 1) word))

abbrev pub mode_behind_option : List ℕ → Option ℕ → Mode
mode_behind_option word None = value_comes word
mode_behind_option word (Some sign) = anything

-- the part that a word completes, if any
abbrev pub part_in : Mode → List ℕ → Option CommandPart
part_in anything word =
    if bytes_eq word (codes "--") then None
    else if begins_with_dashes word then option_part word (sign_in word)
    else Some (positional word)
part_in positionals word = Some (positional word)
part_in (value_comes name) word = Some (given name word)

-- what the word behind a word may be
abbrev pub mode_behind : Mode → List ℕ → Mode
mode_behind anything word =
    if bytes_eq word (codes "--") then positionals
    else if begins_with_dashes word then mode_behind_option word (sign_in word)
    else anything
mode_behind positionals word = positionals
mode_behind (value_comes name) word = anything

abbrev pub with_part : Option CommandPart → List CommandPart → List CommandPart
with_part None parts = parts
with_part (Some part) parts = part ∷ parts

-- the parts that words spell
unfoldable pub parts_from : Mode → List (List ℕ) → List CommandPart
parts_from (value_comes name) [] = lacking ∷ []
parts_from mode [] = []
parts_from mode (word ∷ words) = with_part (part_in mode word) (parts_from (mode_behind mode word) words)

-- the positional of this number, counted from 0
abbrev pub positional_at : ℕ → List CommandPart → Option (List ℕ)
positional_at i [] = None
positional_at i (positional word ∷ parts) = if i == 0 then Some word else positional_at (i - 1) parts
positional_at i (given name value ∷ parts) = positional_at i parts
positional_at i (lacking ∷ parts) = positional_at i parts

-- the value of an option of this name
abbrev pub value_in_part : List ℕ → Option CommandPart → Option (List ℕ)
value_in_part wanted None = None
value_in_part wanted (Some (positional word)) = None
value_in_part wanted (Some (given name value)) = if bytes_eq name wanted then Some value else None
value_in_part wanted (Some lacking) = None

-- the value of the first option of this name
abbrev pub value_of : List ℕ → List CommandPart → Option (List ℕ)
value_of wanted [] = None
value_of wanted (part ∷ parts) = option_or (value_in_part wanted (Some part)) (value_of wanted parts)

-- so many positionals, and options of these names with their values, each at most once
abbrev pub has_form : ℕ → List (List ℕ) → List CommandPart → Bool
has_form count names [] = count == 0
has_form count names (positional word ∷ parts) = not (count == 0) && has_form (count - 1) names parts
has_form count names (given name value ∷ parts) =
    list_any (bytes_eq name) names && not (is_some (value_of name parts)) && has_form count names parts
has_form count names (lacking ∷ parts) = false

-- these words are of that form
abbrev pub is_form : ℕ → List (List ℕ) → List (List ℕ) → Bool
is_form count names words = has_form count names (parts_from anything words)

-- a word as a file name, if it is one
abbrev pub file_name_of : List ℕ → Option (List ℕ)
file_name_of word = if is_file_name word then Some word else None

-- the file name that stands as this positional
abbrev pub name_at : ℕ → List (List ℕ) → Option (List ℕ)
name_at i words = option_and_then file_name_of (positional_at i (parts_from anything words))

-- what the value of an option is read as, if the option is given
abbrev pub optional : {A : Type 0} → (List ℕ → Option A) → Option (List ℕ) → Option (Option A)
optional reading None = Some None
optional reading (Some value) = option_map Some (reading value)

-- the file name that an option gives, and none where its value is no file name
abbrev pub optional_name : List ℕ → List (List ℕ) → Option (Option (List ℕ))
optional_name option words = optional file_name_of (value_of option (parts_from anything words))

abbrev pub within : ℕ → ℕ → ℕ → Option ℕ
within least most number = if nat_le least number && nat_le number most then Some number else None

-- a word as a number from `least` to `most`: decimal digits without sign or leading zero
abbrev pub number_of_word : ℕ → ℕ → List ℕ → Option ℕ
number_of_word least most word = option_and_then (within least most) (element_of word)

-- the number that stands as this positional
abbrev pub number_at : ℕ → ℕ → ℕ → List (List ℕ) → Option ℕ
number_at least most i words = option_and_then (number_of_word least most) (positional_at i (parts_from anything words))

-- the number that an option gives, and none where its value is no such number
abbrev pub optional_number : ℕ → ℕ → List ℕ → List (List ℕ) → Option (Option ℕ)
optional_number least most option words = optional (number_of_word least most) (value_of option (parts_from anything words))

-- words as lists of bytes
abbrev pub texts : List (Vec ℕ Global) → List (List ℕ)
texts words = map (λ w. w.items) words
