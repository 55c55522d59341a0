-- The form of the words behind a command's name: places that each take a text, and options that take one.
use Rattle.std.specs.Prelude.{ℕ, ◌≡◌, ◌<◌, ◌==◌, ◌&&◌, not, Bool, true, false, List, [], ◌∷◌, ◌++◌, length, map}
use Rattle.std.specs.Borrow.{Bor}
use Rattle.std.specs.List.{All, list_any}
use Rattle.std.specs.Str.{IsUtf8, bytes_eq}

-- the names of the places, of the options that must stand and of those that may; options without their dashes
pub record WordForm : Type 0 where
  pub places : List (List ℕ)
  pub needed : List (List ℕ)
  pub free : List (List ℕ)

abbrev pub form_of : List (Bor (List ℕ)) → List (Bor (List ℕ)) → List (Bor (List ℕ)) → WordForm
form_of places needed free = record { places = map (λ s. s.now) places; needed = map (λ s. s.now) needed; free = map (λ s. s.now) free }

abbrev pub options_of : WordForm → List (List ℕ)
options_of f = f.needed ++ f.free

abbrev pub names_of_form : WordForm → List (List ℕ)
names_of_form f = f.places ++ options_of f

abbrev pub is_distinct : List (List ℕ) → Bool
is_distinct [] = true
is_distinct (x ∷ xs) = not (list_any (bytes_eq x) xs) && is_distinct xs

-- the names are apart
pub record IsForm (f : WordForm) : Type 0 where
  pub distinct : is_distinct (names_of_form f) ≡ true
  pub few : length f.places < 100

-- each word is text
abbrev pub AllText : List (List ℕ) → Type 0
AllText words = All IsUtf8 words

-- an option as it is written
abbrev pub dashed : List ℕ → List ℕ
dashed name = 45 ∷ 45 ∷ name

-- a dash and more, as each option is written and also the word `--`
abbrev pub is_flag : List ℕ → Bool
is_flag [] = false
is_flag (a ∷ []) = false
is_flag (a ∷ b ∷ bytes) = a == 45

-- a text that may stand at a place or behind an option
pub record IsPlain (text : List ℕ) : Type 0 where
  pub utf8 : IsUtf8 text
  pub apart : is_flag text ≡ false
