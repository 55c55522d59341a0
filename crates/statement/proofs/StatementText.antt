-- What is written of a statement is its text, and gives it when it is read.
use Rattle.std.proofs.Common.{◌≡◌, ℕ, zero, suc, ◌/◌, ◌%◌, ◌^◌, ◌<◌, ◌≤◌, List, [], ◌∷◌, ◌++◌, length, slice_index, true, false, All, Some, Ok, refl, sym, ap, ap₂, ◌∙◌, append_assoc, arith}
use Rattle.std.specs.List.{AllByRecursion}
use Rattle.std.proofs.lemmas.Bool.Decides.{nat_tests}
use Rattle.std.proofs.lemmas.Grind.{flat_map-append}
use Rattle.std.specs.Str.{IsUtf8}
use Rattle.std.proofs.lemmas.Str.{is_utf8-from_IsUtf8}
use Rattle.hex.specs.Hex.{lower_digits}
use Rattle.json.specs.Print.{escape, escape_byte}
use Rattle.serde_json.specs.Data.{Data, string, depth, items_depth}
use Rattle.serde_json.specs.Read.{read}
use Rattle.serde_json.specs.Written.{compact_text, items_text, has_float, items_have_float}
use Rattle.serde_json.proofs.OnLiterals.{serde_json_on_literals}
use Rattle.vm_field.specs.Limits.{least_depth, most_inputs, most_kernel, most_outputs}
use Rattle.vm_field.specs.Field.{AreElements}
use Rattle.vm_field.specs.Machine.{IsWord}
use Rattle.vm_field.specs.WordText.{hex_digits, word_hex, word_of_hex}
use Rattle.vm_field.proofs.HexLaws.{word_of_hex-word_hex}
use Rattle.block_tree.specs.Kernels.{AreDistinct}
use Rattle.statement.specs.Values.{are_texts, words_of}
use Rattle.statement.specs.ToJson.{texts_of, listed}
use Rattle.statement.proofs.Written.{items_have_float-numbers_of, items_depth-numbers_of, items_text-numbers_of, are_numbers-numbers_of, elements_of-numbers_of}
use Rattle.statement.specs.Statements.{Stated, claim_by, statement_of, statement_text, words_listed}
use Rattle.statement.specs.StatementJson.{statement_data}
use Rattle.statement.proofs.Distinct.{passes}

items_have_float-texts_of : (ws : List (List ℕ)) → items_have_float (texts_of ws) ≡ false
items_have_float-texts_of [] = refl
items_have_float-texts_of (w ∷ ws) = items_have_float-texts_of ws

pub has_float-statement_data : (claim : Stated) → has_float (statement_data claim) ≡ false
has_float-statement_data claim =
    rw (items_have_float-numbers_of claim.inputs, items_have_float-texts_of claim.kernel, items_have_float-numbers_of claim.outputs) refl

items_depth-texts_of : (ws : List (List ℕ)) → items_depth (texts_of ws) ≡ 0
items_depth-texts_of [] = refl
items_depth-texts_of (w ∷ ws) = rw (items_depth-texts_of ws) refl

pub depth-statement_data : (claim : Stated) → depth (statement_data claim) ≤ 127
depth-statement_data claim =
    rw (items_depth-numbers_of claim.inputs, items_depth-texts_of claim.kernel, items_depth-numbers_of claim.outputs) (omega arith)

-- ---- the text

-- a byte that a text in JSON shows as it is
abbrev IsPlain : ℕ → Type 0
IsPlain c = escape_byte c ≡ c ∷ []

plain_at : (cs : List ℕ) (d : ℕ) → AllByRecursion IsPlain cs → d < length cs → IsPlain (slice_index cs d)
plain_at [] d plain within = absurd (omega arith)
plain_at (c ∷ cs) zero plain within = plain.0
plain_at (c ∷ cs) (suc d) plain within = plain_at cs d plain.1 (omega arith)

digits_are_plain : AllByRecursion IsPlain lower_digits
unfolding serde_json_on_literals escape_byte
digits_are_plain =
    (refl, (refl, (refl, (refl, (refl, (refl, (refl, (refl, (refl, (refl, (refl, (refl, (refl, (refl, (refl, (refl, tt))))))))))))))))

escape-hex_digits : (k n : ℕ) → escape (hex_digits k n) ≡ hex_digits k n
unfolding hex_digits
escape-hex_digits zero n = refl
escape-hex_digits (suc k) n =
    ap₂ (λ xs ys. xs ++ ys) (plain_at lower_digits (n / 16 ^ k % 16) digits_are_plain (omega arith)) (escape-hex_digits k n)

escape-word_hex : (w : List ℕ) → escape (word_hex w) ≡ word_hex w
unfolding word_hex
escape-word_hex [] = refl
escape-word_hex (e ∷ es) =
    flat_map-append escape_byte (hex_digits 16 e) (word_hex es) ∙ ap₂ (λ xs ys. xs ++ ys) (escape-hex_digits 16 e) (escape-word_hex es)

-- a text is ended, and a comma and the rest follow
joined : (text rest : List ℕ) → 34 ∷ ((text ++ 34 ∷ []) ++ 44 ∷ (rest ++ 93 ∷ [])) ≡ (34 ∷ text ++ 34 ∷ 44 ∷ rest) ++ 93 ∷ []
joined text rest =
    ap (λ xs. 34 ∷ xs) (append_assoc text (34 ∷ []) (44 ∷ (rest ++ 93 ∷ [])) ∙ sym (append_assoc text (34 ∷ 44 ∷ rest) (93 ∷ [])))

ended : (text rest : List ℕ) → (text ++ 34 ∷ []) ++ rest ≡ text ++ 34 ∷ rest
ended text rest = append_assoc text (34 ∷ []) rest

words_listed_on : (w : List ℕ) (ws : List (List ℕ))
    → compact_text (string (word_hex w)) ++ items_text true (texts_of ws) ≡ words_listed (w ∷ ws) ++ 93 ∷ []
words_listed_on w [] = rw (escape-word_hex w) refl
words_listed_on w (v ∷ vs) =
    ap₂ (λ text rest. 34 ∷ ((text ++ 34 ∷ []) ++ 44 ∷ rest)) (escape-word_hex w) (words_listed_on v vs) ∙ joined (word_hex w) (words_listed (v ∷ vs))

items_text-texts_of : (ws : List (List ℕ)) → items_text false (texts_of ws) ≡ words_listed ws ++ 93 ∷ []
items_text-texts_of [] = refl
items_text-texts_of (w ∷ ws) = words_listed_on w ws

closed : (xs rest : List ℕ) → (listed xs ++ 93 ∷ []) ++ rest ≡ listed xs ++ 93 ∷ rest
closed xs rest = append_assoc (listed xs) (93 ∷ []) rest

closed_words : (ws : List (List ℕ)) (rest : List ℕ) → (words_listed ws ++ 93 ∷ []) ++ rest ≡ words_listed ws ++ 93 ∷ rest
closed_words ws rest = append_assoc (words_listed ws) (93 ∷ []) rest

pub compact_text-statement_data : (claim : Stated) → compact_text (statement_data claim) ≡ statement_text claim
unfolding statement_text serde_json_on_literals
compact_text-statement_data claim =
    rw (
      escape-word_hex claim.digest,
      items_text-numbers_of claim.inputs,
      items_text-texts_of claim.kernel,
      items_text-numbers_of claim.outputs,
      closed claim.inputs,
      closed_words claim.kernel,
      closed claim.outputs,
      ended (word_hex claim.digest),
    ) (simp append_assoc)

-- ---- what is read of it

are_texts-texts_of : (ws : List (List ℕ)) → are_texts (texts_of ws) ≡ true
are_texts-texts_of [] = refl
are_texts-texts_of (w ∷ ws) = are_texts-texts_of ws

read_back : (w : List ℕ) → IsWord w → word_of_hex (word_hex w) ≡ Some w
read_back w is = word_of_hex-word_hex w is.size is.below

words_of-texts_of : (ws : List (List ℕ)) → All IsWord ws → words_of (texts_of ws) ≡ Some ws
words_of-texts_of [] h = refl
words_of-texts_of (w ∷ ws) h =
    rw (read_back w (h 0 w (omega arith)), words_of-texts_of ws (λ k d within. h (suc k) d (omega arith))) refl

-- a claim that a statement makes
pub record IsGood (claim : Stated) : Type 0 where
  pub digest : IsWord claim.digest
  pub inputs : AreElements claim.inputs
  pub kernel : All IsWord claim.kernel
  pub outputs : AreElements claim.outputs
  pub inputs_few : length claim.inputs ≤ most_inputs
  pub kernel_few : length claim.kernel ≤ most_kernel
  pub outputs_full : least_depth ≤ length claim.outputs
  pub outputs_few : length claim.outputs ≤ most_outputs
  pub distinct : AreDistinct claim.kernel

pub claim_by-statement_data : (claim : Stated) → IsGood claim → claim_by (statement_data claim) ≡ Ok claim
unfolding serde_json_on_literals
claim_by-statement_data claim good =
    rw (
      are_numbers-numbers_of claim.inputs,
      are_numbers-numbers_of claim.outputs,
      are_texts-texts_of claim.kernel,
      elements_of-numbers_of claim.inputs good.inputs,
      elements_of-numbers_of claim.outputs good.outputs,
      read_back claim.digest good.digest,
      words_of-texts_of claim.kernel good.kernel,
      passes claim.kernel good.distinct,
    )
    (grind (arith, nat_tests, good.inputs_few, good.kernel_few, good.outputs_full, good.outputs_few))

pub statement_of-read : (bytes : List ℕ) (d : Data) (claim : Stated) → IsUtf8 bytes → read bytes ≡ Some d → claim_by d ≡ Ok claim
    → statement_of bytes ≡ Ok claim
unfolding statement_of
statement_of-read bytes d claim text e by = rw (is_utf8-from_IsUtf8 bytes text, e) by
