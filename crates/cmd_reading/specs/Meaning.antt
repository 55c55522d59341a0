-- What words of a form say, and which words can be meant by it.
use Rattle.std.specs.Prelude.{ℕ, zero, suc, ◌≡◌, true, List, [], ◌∷◌, length, map, Option, Some, None, IfSome, option_map}
use Rattle.std.specs.List.{range_with_len}
use Rattle.cmd_words.specs.Words.{CommandPart, anything, is_form, parts_from, positional_at, value_of}
use Rattle.cmd_reading.specs.Form.{WordForm, IsPlain, dashed, options_of}
use Rattle.cmd_reading.specs.declared.reading.ReadWords.{ReadWords}

-- the texts that stand at the places, and that options give
pub record FormTexts : Type 0 where
  pub places : List (Option (List ℕ))
  pub needed : List (Option (List ℕ))
  pub free : List (Option (List ℕ))

abbrev pub texts_of_parts : WordForm → List CommandPart → FormTexts
texts_of_parts f parts = record {
  places = map (λ i. positional_at i parts) (range_with_len 0 (length f.places));
  needed = map (λ n. value_of (dashed n) parts) f.needed;
  free = map (λ n. value_of (dashed n) parts) f.free;
}

-- the texts in words
abbrev pub texts_in : WordForm → List (List ℕ) → FormTexts
texts_in f words = texts_of_parts f (parts_from anything words)

abbrev pub HasForm : WordForm → List (List ℕ) → Type 0
HasForm f words = is_form (length f.places) (map dashed (options_of f)) words ≡ true

-- the texts that were read
abbrev pub texts_read : ReadWords → FormTexts
texts_read r = record {
  places = map (λ t. Some t.now) r.places.items;
  needed = map (λ t. Some t.now) r.needed.items;
  free = map (option_map (λ t. t.now)) r.free.items;
}

-- the text of this number, if there is one
abbrev pub text_at : ℕ → List (Option (List ℕ)) → Option (List ℕ)
text_at i [] = None
text_at zero (t ∷ ts) = t
text_at (suc i) (t ∷ ts) = text_at i ts

-- the words have this form, and these are the texts in them
pub record Says (f : WordForm) (words : List (List ℕ)) (r : ReadWords) : Type 0 where
  pub form : HasForm f words
  pub texts : texts_read r ≡ texts_in f words

-- a plain text is there
abbrev pub IsThere : Option (List ℕ) → Type 0
IsThere None = ⊥
IsThere (Some text) = IsPlain text

abbrev pub AreThere : List (Option (List ℕ)) → Type 0
AreThere [] = Unit {0}
AreThere (text ∷ rest) = IsThere text × AreThere rest

-- each that is there is plain
abbrev pub MayStand : List (Option (List ℕ)) → Type 0
MayStand [] = Unit {0}
MayStand (text ∷ rest) = IfSome text IsPlain × MayStand rest

-- words of this form whose texts may be names of files or numbers, with each option that must stand
pub record MayBeMeant (f : WordForm) (words : List (List ℕ)) : Type 0 where
  pub form : HasForm f words
  pub places : AreThere (texts_in f words).places
  pub needed : AreThere (texts_in f words).needed
  pub free : MayStand (texts_in f words).free
