-- The text of a statement is no longer than a statement may be.
use Rattle.std.proofs.Common.{ℕ, ◌+◌, ◌*◌, ◌<◌, ◌≤◌, List, [], ◌∷◌, ◌++◌, All, codes, decimal, length, arith}
use Rattle.std.proofs.lemmas.List.{length-append}
use Rattle.std.proofs.lemmas.List.Elements.{All-head, All-tail}
use Rattle.std.proofs.lemmas.Fmt.{length-decimal-le}
use Rattle.vm_field.specs.Limits.{most_inputs, most_kernel, most_outputs}
use Rattle.vm_field.specs.Field.{AreElements, prime}
use Rattle.vm_field.specs.Machine.{IsWord}
use Rattle.vm_field.specs.WordText.{word_hex}
use Rattle.vm_field.proofs.HexLaws.{length-word_hex}
use Rattle.statement.specs.ToJson.{listed}
use Rattle.statement.specs.Statements.{Stated, statement_text, words_listed}
use Rattle.fill_files.specs.RunFiles.{most_statement_bytes}

-- twenty digits and a comma for each element at most
listed_size : (xs : List ℕ) → All (λ x. x < prime) xs → length (listed xs) ≤ 21 * length xs
listed_size [] below = omega arith
listed_size (x ∷ []) below =
    let low : x < prime = All-head (λ y. y < prime) x [] below in
    let one : length (decimal x) ≤ 20 = length-decimal-le 20 x (omega arith) (omega (arith, low)) (omega (arith, low)) in
    omega (arith, one)
listed_size (x ∷ y ∷ xs) below =
    let low : x < prime = All-head (λ z. z < prime) x (y ∷ xs) below in
    let one : length (decimal x) ≤ 20 = length-decimal-le 20 x (omega arith) (omega (arith, low)) (omega (arith, low)) in
    let more = listed_size (y ∷ xs) (All-tail (λ z. z < prime) x (y ∷ xs) below) in
    omega (arith, one, more, length-append (decimal x) (44 ∷ listed (y ∷ xs)))

-- sixty-four digits, two quotation marks and a comma for each word
words_size : (words : List (List ℕ)) → All IsWord words → length (words_listed words) ≤ 67 * length words
words_size [] are = omega arith
words_size (w ∷ []) are =
    let word = All-head IsWord w [] are in
    let four = word.size in
    omega (arith, length-word_hex w, four, length-append (word_hex w) (34 ∷ []))
words_size (w ∷ v ∷ ws) are =
    let word = All-head IsWord w (v ∷ ws) are in
    let four = word.size in
    let more = words_size (v ∷ ws) (All-tail IsWord w (v ∷ ws) are) in
    omega (arith, length-word_hex w, four, more, length-append (word_hex w) (34 ∷ 44 ∷ words_listed (v ∷ ws)))

-- one text behind another
joined : (a b : List ℕ) (x y : ℕ) → length a ≤ x → length b ≤ y → length (a ++ b) ≤ x + y
joined a b x y first second = omega (arith, first, second, length-append a b)

pub short_text : (claim : Stated) → IsWord claim.digest → All IsWord claim.kernel → AreElements claim.inputs → AreElements claim.outputs
    → length claim.inputs ≤ most_inputs → length claim.kernel ≤ most_kernel → length claim.outputs ≤ most_outputs
    → length (statement_text claim) ≤ most_statement_bytes
unfolding statement_text
short_text claim digest kernel inputs outputs few words deep =
    let of_digest : length (word_hex claim.digest) ≤ 64 = let four = digest.size in omega (arith, four, length-word_hex claim.digest) in
    let of_inputs : length (listed claim.inputs) ≤ 21504 = omega (arith, few, listed_size claim.inputs inputs) in
    let of_kernel : length (words_listed claim.kernel) ≤ 17085 = omega (arith, words, words_size claim.kernel kernel) in
    let of_outputs : length (listed claim.outputs) ≤ 11031531 = omega (arith, deep, listed_size claim.outputs outputs) in
    let digest_on = joined (codes "{\"digest\":\"") (word_hex claim.digest) 11 64 (omega arith) of_digest in
    let inputs_name = joined (codes "{\"digest\":\"" ++ word_hex claim.digest) (codes "\",\"inputs\":[") 75 12 digest_on (omega arith) in
    let inputs_on =
    joined (codes "{\"digest\":\"" ++ word_hex claim.digest ++ codes "\",\"inputs\":[") (listed claim.inputs) 87 21504 inputs_name
    of_inputs in
    let kernel_name =
    joined (codes "{\"digest\":\"" ++ word_hex claim.digest ++ codes "\",\"inputs\":[" ++ listed claim.inputs)
    (codes "],\"kernel\":[") 21591 12 inputs_on (omega arith) in
    let kernel_on =
    joined (codes "{\"digest\":\"" ++ word_hex claim.digest ++ codes "\",\"inputs\":[" ++ listed claim.inputs
    ++ codes "],\"kernel\":[") (words_listed claim.kernel) 21603 17085 kernel_name of_kernel in
    let outputs_name =
    joined (codes "{\"digest\":\"" ++ word_hex claim.digest ++ codes "\",\"inputs\":[" ++ listed claim.inputs
    ++ codes "],\"kernel\":[" ++ words_listed claim.kernel) (codes "],\"outputs\":[") 38688 13 kernel_on (omega arith) in
    let outputs_on =
    joined (codes "{\"digest\":\"" ++ word_hex claim.digest ++ codes "\",\"inputs\":[" ++ listed claim.inputs
    ++ codes "],\"kernel\":[" ++ words_listed claim.kernel ++ codes "],\"outputs\":[") (listed claim.outputs) 38701 11031531
    outputs_name of_outputs in
    let whole =
    joined (codes "{\"digest\":\"" ++ word_hex claim.digest ++ codes "\",\"inputs\":[" ++ listed claim.inputs
    ++ codes "],\"kernel\":[" ++ words_listed claim.kernel ++ codes "],\"outputs\":[" ++ listed claim.outputs) (codes "]}")
    11070232 2 outputs_on (omega arith) in
    omega (arith, whole)
