-- Names of files and numbers are plain texts, and a command that is asked for by such texts can be meant.
use Rattle.std.proofs.Common.{◌≡◌, ◌<◌, ◌+◌, ◌-◌, ◌*◌, ℕ, true, false, refl, List, [], ◌∷◌, length, Option, Some, None, arith, inl, inr}
use Rattle.std.specs.Prelude.{not, nat_le, ◌&&◌, ◌==◌, IfSome, option_and_then, option_map}
use Rattle.std.specs.Char.{is_ascii_digit}
use Rattle.std.specs.List.{list_all}
use Rattle.std.specs.Str.{IsAscii}
use Rattle.std.proofs.lemmas.Bool.{and_parts, cases_Bool, not-true}
use Rattle.std.proofs.lemmas.Option.{none-some, option_and_then_some}
use Rattle.std.proofs.lemmas.Bool.Decides.{nat_tests}
use Rattle.std.proofs.lemmas.Str.{IsUtf8-from_ascii}
use Rattle.std.proofs.lemmas.Str.Ascii.{IsAscii-cons, IsAscii-nil}
use Rattle.vm_field.specs.Decimal.{decimal_number, element_of, is_without_leading_zero}
use Rattle.vm_field.specs.Field.{element_from}
use Rattle.vm_field.specs.FileName.{begins_with_dash, is_file_name, is_name_byte}
use Rattle.vm_field.specs.Limits.{most_name_bytes}
use Rattle.cmd_words.specs.Words.{file_name_of, number_of_word, optional, within}
use Rattle.cmd_words.proofs.WordsLemmas.{name_is_text}
use Rattle.cmd_reading.specs.Form.{IsPlain, is_flag}
use Rattle.cmd_reading.specs.Meaning.{IsThere}

abbrev Text : Type 0
Text = List ℕ

no-flag : (word : Text) → begins_with_dash word ≡ false → is_flag word ≡ false
no-flag [] e = refl
no-flag (a ∷ []) e = refl
no-flag (a ∷ b ∷ bytes) e = e

-- ---- names

pub plain_name : (word name : Text) → file_name_of word ≡ Some name → IsPlain word
plain_name word name e = elim (cases_Bool (is_file_name word)) [
  | inl is ↦
      let front = and_parts (nat_le 1 (length word) && nat_le (length word) most_name_bytes && list_all is_name_byte word) (not (begins_with_dash word)) is in
      record {
        utf8 = name_is_text word (and_parts (nat_le 1 (length word) && nat_le (length word) most_name_bytes) (list_all is_name_byte word) front.0).1;
        apart = no-flag word (not-true _ front.1);
      }
  | inr other ↦ absurd (none-some name (rw other at e))
]

-- ---- numbers

digit-ascii : (c : ℕ) → is_ascii_digit c ≡ true → c < 128
digit-ascii c h = grind (arith, nat_tests)

digit-apart : (c : ℕ) → is_ascii_digit c ≡ true → (c == 45) ≡ false
digit-apart c h = grind (arith, nat_tests)

digits-ascii : (n : ℕ) (text : Text) (m : ℕ) → decimal_number n text ≡ Some m → IsAscii text
unfolding decimal_number
digits-ascii n [] m e = IsAscii-nil
digits-ascii n (c ∷ cs) m e = elim (cases_Bool (is_ascii_digit c)) [
  | inl d ↦ IsAscii-cons c cs (digit-ascii c d) (digits-ascii (10 * n + (c - 48)) cs m (rw d at e))
  | inr d ↦ absurd (none-some m (rw d at e))
]

digits-apart : (n : ℕ) (text : Text) (m : ℕ) → decimal_number n text ≡ Some m → begins_with_dash text ≡ false
unfolding decimal_number
digits-apart n [] m e = refl
digits-apart n (c ∷ cs) m e = elim (cases_Bool (is_ascii_digit c)) [ inl d ↦ digit-apart c d | inr d ↦ absurd (none-some m (rw d at e)) ]

element-digits : (word : Text) (n : ℕ) → element_of word ≡ Some n → (m : ℕ) × (decimal_number 0 word ≡ Some m)
unfolding element_of
element-digits word n e = elim (cases_Bool (is_without_leading_zero word)) [
  | inl d ↦ option_and_then_some element_from (decimal_number 0 word) n (rw d at e) (λ m is of. (m, is))
  | inr d ↦ absurd (none-some n (rw d at e))
]

pub plain_number : (least most : ℕ) (word : Text) (n : ℕ) → number_of_word least most word ≡ Some n → IsPlain word
plain_number least most word n e =
    let digits = option_and_then_some (within least most) (element_of word) n e (λ k is of. element-digits word k is) in
    record {
      utf8 = IsUtf8-from_ascii word (digits-ascii 0 word digits.0 digits.1);
      apart = no-flag word (digits-apart 0 word digits.0 digits.1);
    }

-- ---- what is asked for by a text that is read so; the answer is the same for all texts that are not read

module _ {Answer A : Type 0} (reading : Text → Option A) (plain : (word : Text) (a : A) → reading word ≡ Some a → IsPlain word) (not_asked : Answer) where
  -- by the text at a place
  pub by_place : (o : Option Text) (ask : Option A → Answer) → ask None ≡ not_asked → ((a : A) → IsThere o → ask (Some a) ≡ not_asked)
      → ask (option_and_then reading o) ≡ not_asked
  by_place None ask none some = none
  by_place (Some word) ask none some = go (reading word) refl
    where
      go : (r : Option A) → reading word ≡ r → ask r ≡ not_asked
      go None e = none
      go (Some a) e = some a (plain word a e)

  -- by the text of an option that must stand
  pub by_needed : (o : Option Text) (ask : Option (Option A) → Answer) → ask None ≡ not_asked → ask (Some None) ≡ not_asked
      → ((a : A) → IsThere o → ask (Some (Some a)) ≡ not_asked) → ask (optional reading o) ≡ not_asked
  by_needed None ask none left some = left
  by_needed (Some word) ask none left some = go (reading word) refl
    where
      go : (r : Option A) → reading word ≡ r → ask (option_map Some r) ≡ not_asked
      go None e = none
      go (Some a) e = some a (plain word a e)

  -- by the text of an option that may stand
  pub by_free : (o : Option Text) (ask : Option (Option A) → Answer) → ask None ≡ not_asked
      → ((a : Option A) → IfSome o IsPlain → ask (Some a) ≡ not_asked) → ask (optional reading o) ≡ not_asked
  by_free None ask none some = some None tt
  by_free (Some word) ask none some = go (reading word) refl
    where
      go : (r : Option A) → reading word ≡ r → ask (option_map Some r) ≡ not_asked
      go None e = none
      go (Some a) e = some (Some a) (plain word a e)
