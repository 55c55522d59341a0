-- The text of a word: sixteen hexadecimal digits for each element, the highest digit first, and the elements in order.
-- Digits of either case are read, lower case is written.
use Rattle.std.specs.Prelude.{ℕ, zero, suc, ◌+◌, ◌*◌, ◌/◌, ◌%◌, ◌^◌, ◌==◌, if◌then◌else◌, List, [], ◌∷◌, ◌++◌, length, slice_index, take, drop, Option, Some, None, option_and_then}
use Rattle.hex.specs.Hex.{lower_digits, hex_digit_value}
use Rattle.vm_field.specs.Field.{element_from}

-- the last k hexadecimal digits of a number, the highest first
unfoldable pub hex_digits : ℕ → ℕ → List ℕ
hex_digits zero n = []
hex_digits (suc k) n = slice_index lower_digits (n / 16 ^ k % 16) ∷ hex_digits k n

-- what is written of a word
unfoldable pub word_hex : List ℕ → List ℕ
word_hex [] = []
word_hex (element ∷ elements) = hex_digits 16 element ++ word_hex elements

-- the number of hexadecimal digits that stand behind the number n; none where a byte is no digit
unfoldable pub hex_number : ℕ → List ℕ → Option ℕ
hex_number n [] = Some n
hex_number n (c ∷ cs) = option_and_then (λ d. hex_number (16 * n + d) cs) (hex_digit_value c)

-- the element that digits write; none where a byte is no digit, or the number is no element
unfoldable pub element_of_hex : List ℕ → Option ℕ
element_of_hex text = option_and_then element_from (hex_number 0 text)

-- k elements of sixteen digits each
unfoldable pub elements_of_hex : ℕ → List ℕ → Option (List ℕ)
elements_of_hex zero text = Some []
elements_of_hex (suc k) text =
    option_and_then (λ element. option_and_then (λ elements. Some (element ∷ elements)) (elements_of_hex k (drop 16 text)))
    (element_of_hex (take 16 text))

-- the word that a text writes, if it writes one
unfoldable pub word_of_hex : List ℕ → Option (List ℕ)
word_of_hex text = if length text == 64 then elements_of_hex 4 text else None
