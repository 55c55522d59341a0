-- Reading and writing a word's text undo one another, but that what was read in upper case is written in lower case.
use Rattle.std.proofs.Common.{⊎_elim, subst, ltb-true, ◌≡◌, ℕ, zero, suc, ◌+◌, ◌*◌, ◌/◌, ◌%◌, ◌^◌, ◌<◌, ◌≤◌, ◌==◌, nat_lt, Bool, true, false, cond, ◌&&◌, List, [], ◌∷◌, ◌++◌, length, slice_index, take, drop, Option, Some, None, option_and_then, All, sym, refl, ap, ap₂, ◌∙◌, arith, pow-suc, length-append, lit<, eqb-true}
use Rattle.std.proofs.Math.Nat.{div-div-eq-div-mul, div-add-mod', mod-lt, div-one}
use Rattle.std.proofs.Math.Seq.{take-append_seam, drop-append_seam}
use Rattle.std.proofs.lemmas.Bool.{and_parts, cases_lt}
use Rattle.std.proofs.lemmas.Bool.Decides.{nat_tests}
use Rattle.std.proofs.lemmas.List.{take-append-drop, length-take-le, length-drop, map-append}
use Rattle.std.proofs.lemmas.List.Elements.{All-head, All-tail}
use Rattle.std.proofs.lemmas.Nat.{mod-mul-add, mul-add-lt}
use Rattle.std.specs.Char.{to_ascii_lowercase}
use Rattle.std.specs.Str.{str_to_ascii_lowercase}
use Rattle.hex.specs.Hex.{lower_digits, hex_digit_value}
use Rattle.hex.proofs.HexLemmas.{IsDigits-lower_digits}
use Rattle.vm_field.specs.Field.{prime, element_from}
use Rattle.vm_field.proofs.Algebra.{element_from-below, element_from-some}
use Rattle.vm_field.specs.WordText.{hex_digits, word_hex, hex_number, element_of_hex, elements_of_hex, word_of_hex}
use Rattle.vm_field.proofs.Elements.{elements-cons, elements-none}

pos_power : (k : ℕ) → 0 < 16 ^ k
pos_power zero = lit< tt
pos_power (suc k) = omega (arith, pos_power k, pow-suc 16 k)

-- ---- what was written is read

-- one digit more
mod_step : (n p : ℕ) → 0 < p → n % (p * 16) ≡ n / p % 16 * p + n % p
mod_step n p pos = ap (λ x. x % (p * 16)) parts ∙ mod-mul-add (n / p / 16) (p * 16) (n / p % 16 * p + n % p) low
  where
    low : n / p % 16 * p + n % p < p * 16
    low = mul-add-lt (n / p % 16) p (n % p) 16 (omega arith) (mod-lt n pos)

    split : (q r s : ℕ) → (q / 16 * 16 + q % 16) * s + r ≡ q / 16 * (s * 16) + (q % 16 * s + r)
    split q r s = omega arith

    parts : n ≡ n / p / 16 * (p * 16) + (n / p % 16 * p + n % p)
    parts =
        sym (div-add-mod' n p) ∙ ap (λ x. x * p + n % p) (sym (div-add-mod' (n / p) 16)) ∙ split (n / p) (n % p) p

pub hex_number-hex_digits : (k m n : ℕ) → hex_number m (hex_digits k n) ≡ Some (m * 16 ^ k + n % 16 ^ k)
unfolding hex_number hex_digits
hex_number-hex_digits zero m n = ap Some (omega arith)
hex_number-hex_digits (suc k) m n =
    ap (λ o. option_and_then (λ d. hex_number (16 * m + d) (hex_digits k n)) o) (IsDigits-lower_digits (n / 16 ^ k % 16) (omega arith))
    ∙ hex_number-hex_digits k (16 * m + n / 16 ^ k % 16) n ∙ ap Some joined
  where
    joined : (16 * m + n / 16 ^ k % 16) * 16 ^ k + n % 16 ^ k ≡ m * 16 ^ suc k + n % 16 ^ suc k
    joined =
        gather (n / 16 ^ k % 16) (16 ^ k) (n % 16 ^ k) ∙ ap (λ x. m * (16 ^ k * 16) + x) (sym (mod_step n (16 ^ k) (pos_power k)))
        ∙ ap (λ x. m * x + n % x) (sym (pow-suc 16 k))
      where
        gather : (d p r : ℕ) → (16 * m + d) * p + r ≡ m * (p * 16) + (d * p + r)
        gather d p r = omega arith

element_of_hex-hex_digits : (n : ℕ) → n < prime → element_of_hex (hex_digits 16 n) ≡ Some n
unfolding element_of_hex
element_of_hex-hex_digits n below =
    ap (λ o. option_and_then element_from o) (hex_number-hex_digits 16 0 n) ∙ ap element_from (omega arith) ∙ element_from-below n below

pub length-hex_digits : (k n : ℕ) → length (hex_digits k n) ≡ k
unfolding hex_digits
length-hex_digits zero n = refl
length-hex_digits (suc k) n = ap suc (length-hex_digits k n)

pub length-word_hex : (w : List ℕ) → length (word_hex w) ≡ 16 * length w
unfolding word_hex
length-word_hex [] = refl
length-word_hex (e ∷ es) = length-append (hex_digits 16 e) (word_hex es) ∙ omega (arith, length-hex_digits 16 e, length-word_hex es)

front : (n : ℕ) (xs ys : List ℕ) → length xs ≡ n → take n (xs ++ ys) ≡ xs
front n xs ys len = ap (λ k. take k (xs ++ ys)) (sym len) ∙ take-append_seam xs ys

back : (n : ℕ) (xs ys : List ℕ) → length xs ≡ n → drop n (xs ++ ys) ≡ ys
back n xs ys len = ap (λ k. drop k (xs ++ ys)) (sym len) ∙ drop-append_seam xs ys

join : Option ℕ → Option (List ℕ) → Option (List ℕ)
join e es = option_and_then (λ x. option_and_then (λ xs. Some (x ∷ xs)) es) e

elements_of_hex-word_hex : (w : List ℕ) → All (λ e. e < prime) w → elements_of_hex (length w) (word_hex w) ≡ Some w
unfolding word_hex elements_of_hex join
elements_of_hex-word_hex [] below = refl
elements_of_hex-word_hex (e ∷ es) below =
    ap₂ join
    (ap element_of_hex (front 16 (hex_digits 16 e) (word_hex es) (length-hex_digits 16 e))
    ∙ element_of_hex-hex_digits e (All-head (λ x. x < prime) e es below))
    (ap (elements_of_hex (length es)) (back 16 (hex_digits 16 e) (word_hex es) (length-hex_digits 16 e))
    ∙ elements_of_hex-word_hex es (All-tail (λ x. x < prime) e es below))

-- a word that was written is read as it was
pub word_of_hex-word_hex : (w : List ℕ) → length w ≡ 4 → All (λ e. e < prime) w → word_of_hex (word_hex w) ≡ Some w
unfolding word_of_hex
word_of_hex-word_hex w len below =
    ap (λ n. cond (n == 64) (elements_of_hex 4 (word_hex w)) None) (length-word_hex w ∙ ap (λ n. 16 * n) len)
    ∙ ap (λ n. elements_of_hex n (word_hex w)) (sym len) ∙ elements_of_hex-word_hex w below

-- ---- what was read is written, in lower case

-- a digit that is read is below 16, and is written in lower case
abbrev digit_writes : ℕ → Option ℕ → Bool
digit_writes c None = true
digit_writes c (Some d) = nat_lt d 16 && (slice_index lower_digits d == to_ascii_lowercase c)

abbrev digits_write : ℕ → Bool
digits_write zero = true
digits_write (suc c) = digit_writes c (hex_digit_value c) && digits_write c

digits_write-at : (n c : ℕ) → digits_write n ≡ true → c < n → digit_writes c (hex_digit_value c) ≡ true
digits_write-at zero c h less = absurd (omega arith)
digits_write-at (suc n) c h less =
    ⊎_elim (λ below. digits_write-at n c parts.1 below) (λ top. ap (λ x. digit_writes x (hex_digit_value x)) (at_top top) ∙ parts.0) (cases_lt c n)
  where
    parts : (digit_writes n (hex_digit_value n) ≡ true) × (digits_write n ≡ true)
    parts = and_parts (digit_writes n (hex_digit_value n)) (digits_write n) h

    at_top : n ≤ c → c ≡ n
    at_top top = omega arith

past_f : (c : ℕ) → 103 ≤ c → hex_digit_value c ≡ None
past_f c above = grind (arith, nat_tests)

digit_facts : (c d : ℕ) → hex_digit_value c ≡ Some d → (d < 16) × (slice_index lower_digits d ≡ to_ascii_lowercase c)
digit_facts c d e = ⊎_elim small (λ above. cc (past_f c above, e)) (cases_lt c 103)
  where
    facts : (nat_lt d 16 ≡ true) × ((slice_index lower_digits d == to_ascii_lowercase c) ≡ true)
        → (d < 16) × (slice_index lower_digits d ≡ to_ascii_lowercase c)
    facts h = (ltb-true d 16 h.0, eqb-true (slice_index lower_digits d) (to_ascii_lowercase c) h.1)

    small : c < 103 → (d < 16) × (slice_index lower_digits d ≡ to_ascii_lowercase c)
    small below =
        facts (and_parts (nat_lt d 16) (slice_index lower_digits d == to_ascii_lowercase c)
        (sym (ap (digit_writes c) e) ∙ digits_write-at 103 c refl below))

-- what was read behind n is m: its last digits are the text's, and n stands above them
abbrev Reads : ℕ → List ℕ → ℕ → Type 0
Reads n text m = (hex_digits (length text) m ≡ str_to_ascii_lowercase text) × (m / 16 ^ length text ≡ n)

reads : (text : List ℕ) (n m : ℕ) → hex_number n text ≡ Some m → Reads n text m
unfolding hex_number hex_digits
reads [] n m e = (refl, div-one m ∙ same)
  where
    same : m ≡ n
    same = cc
reads (c ∷ cs) n m e = go (hex_digit_value c) refl e (λ d h. reads cs (16 * n + d) m h)
  where
    go : (o : Option ℕ) → hex_digit_value c ≡ o → option_and_then (λ d. hex_number (16 * n + d) cs) o ≡ Some m
        → ((d : ℕ) → hex_number (16 * n + d) cs ≡ Some m → Reads (16 * n + d) cs m) → Reads n (c ∷ cs) m
    go None is h rest = cc
    go (Some d) is h rest =
        let facts = digit_facts c d is in
        let tail = rest d h in
        let top : m / 16 ^ length cs ≡ 16 * n + d = tail.1 in
        let digit : m / 16 ^ length cs % 16 ≡ d = omega (arith, facts.0) in (
          ap₂ (λ (x : ℕ) (xs : List ℕ). x ∷ xs) (ap (slice_index lower_digits) digit ∙ facts.1) tail.0,
          ap (λ x. m / x) (pow-suc 16 (length cs)) ∙ sym (div-div-eq-div-mul m (16 ^ length cs) 16) ∙ omega (arith, facts.0),
        )

element_reads : (text : List ℕ) (e : ℕ) → length text ≡ 16 → element_of_hex text ≡ Some e
    → (hex_digits 16 e ≡ str_to_ascii_lowercase text) × (e < prime)
unfolding element_of_hex
element_reads text e len h = go (hex_number 0 text) refl h
  where
    go : (o : Option ℕ) → hex_number 0 text ≡ o → option_and_then element_from o ≡ Some e
        → (hex_digits 16 e ≡ str_to_ascii_lowercase text) × (e < prime)
    go None is same = cc
    go (Some n) is same =
        let found = element_from-some n e same in
        (ap₂ hex_digits (sym len) (sym found.0) ∙ (reads text 0 n is).0, found.1)

-- the words that texts of 16 k digits write
abbrev pub IsRead : ℕ → List ℕ → List ℕ → Type 0
IsRead k text w = (word_hex w ≡ str_to_ascii_lowercase text) × (length w ≡ k) × All (λ e. e < prime) w

elements_read : (k : ℕ) (text w : List ℕ) → length text ≡ 16 * k → elements_of_hex k text ≡ Some w → IsRead k text w
unfolding elements_of_hex word_hex
elements_read zero [] w len h =
    let w_is : [] ≡ w = cc in
    subst (IsRead 0 []) w_is (refl, refl, elements-none)
elements_read zero (c ∷ cs) w len h = absurd (omega arith)
elements_read (suc k) text w len h =
    go (element_of_hex (take 16 text)) refl (elements_of_hex k (drop 16 text)) refl h
    (λ es. elements_read k (drop 16 text) es (omega (arith, length-drop 16 text)))
  where
    go : (o : Option ℕ) → element_of_hex (take 16 text) ≡ o → (os : Option (List ℕ)) → elements_of_hex k (drop 16 text) ≡ os
        → option_and_then (λ x. option_and_then (λ xs. Some (x ∷ xs)) os) o ≡ Some w
        → ((es : List ℕ) → elements_of_hex k (drop 16 text) ≡ Some es → IsRead k (drop 16 text) es) → IsRead (suc k) text w
    go None is os are same rest = cc
    go (Some e) is None are same rest = cc
    go (Some e) is (Some es) are same rest =
        let first = element_reads (take 16 text) e (length-take-le 16 text (omega arith)) is in
        let later = rest es are in
        let w_is : e ∷ es ≡ w = cc in
        subst (IsRead (suc k) text) w_is (
          ap₂ (λ (xs ys : List ℕ). xs ++ ys) first.0 later.0 ∙ sym (map-append to_ascii_lowercase (take 16 text) (drop 16 text))
              ∙ ap str_to_ascii_lowercase (take-append-drop 16 text),
          ap suc later.1,
          elements-cons e es first.1 later.2,
        )

-- a word that is read is four elements, and is written as the text in lower case
pub word_hex-word_of_hex : (text w : List ℕ) → word_of_hex text ≡ Some w → IsRead 4 text w
unfolding word_of_hex
word_hex-word_of_hex text w h = go (length text == 64) refl h
  where
    go : (b : Bool) → (length text == 64) ≡ b → cond b (elements_of_hex 4 text) None ≡ Some w → IsRead 4 text w
    go true is same = elements_read 4 text w (eqb-true (length text) 64 is) same
    go false is same = cc
