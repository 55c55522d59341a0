-- File names are text.
use Rattle.std.proofs.Common.{◌≡◌, ℕ, zero, suc, ◌<◌, not, lit<, true, List, [], ◌∷◌, get_or, refl, inl, inr, arith, None}
use Rattle.std.specs.Str.{IsUtf8}
use Rattle.std.specs.List.{list_all}
use Rattle.std.proofs.lemmas.Str.{IsUtf8-from_ascii}
use Rattle.std.proofs.lemmas.Bool.{cases_Bool, and_parts}
use Rattle.std.proofs.lemmas.Bool.Decides.{nat_tests}
use Rattle.vm_field.specs.FileName.{is_name_byte, begins_with_dash, is_file_name}
use Rattle.cmd_words.specs.Words.{file_name_of}

byte_is_ascii : (b : ℕ) → is_name_byte b ≡ true → b < 128
byte_is_ascii b h = grind (arith, nat_tests)

-- a word of such bytes is text
pub name_is_text : (word : List ℕ) → list_all is_name_byte word ≡ true → IsUtf8 word
name_is_text word all = IsUtf8-from_ascii word (ascii word all)
  where
    ascii : (bs : List ℕ) → list_all is_name_byte bs ≡ true → (i : ℕ) → get_or bs i 0 < 128
    ascii [] h i = lit< tt
    ascii (b ∷ bs) h zero = byte_is_ascii b (and_parts (is_name_byte b) (list_all is_name_byte bs) h).0
    ascii (b ∷ bs) h (suc i) = ascii bs (and_parts (is_name_byte b) (list_all is_name_byte bs) h).1 i

-- a word that is no text is no name
pub no_name : (word : List ℕ) → (IsUtf8 word → ⊥) → None ≡ file_name_of word
no_name word bad =
    elim (cases_Bool (is_file_name word)) [
      | inl name ↦ absurd (bad (name_is_text word (and_parts _ (list_all is_name_byte word) (and_parts _ (not (begins_with_dash word)) name).0).1))
      | inr other ↦ rw other refl
    ]
