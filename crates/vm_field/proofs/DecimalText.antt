-- A text is the canonical decimal of an element exactly where it is what `decimal` writes of it.
use Rattle.std.proofs.Common.{◌≡◌, ◌≢◌, ℕ, ◌+◌, ◌-◌, ◌*◌, ◌^◌, ◌<◌, ⊎_elim, Bool, true, false, cond, not, ◌&&◌, List, [], ◌∷◌, length, get_or, Option, Some, None, option_and_then, IfSome, decimal, sym, refl, ap, ◌∙◌, arith, lit<, rules, eq-eqb, ne_eqb, eq-zero-or-pos}
use Rattle.std.proofs.lemmas.Bool.{false≢true, cases_lt}
use Rattle.std.proofs.lemmas.Fmt.{digits_decimal, digits_value-decimal, decimal-digits_value, decimal_nonempty, first_decimal, decimal_digit, decimal_injective}
use Rattle.std.proofs.lemmas.Str.Parse.{IsNumeralModel, numerals_by_fold}
use Rattle.std.specs.Char.{is_ascii_digit}
use Rattle.std.specs.Str.{all_ascii_digits}
use Rattle.vm_field.specs.Field.{prime, element_from}
use Rattle.vm_field.specs.Decimal.{decimal_number, is_without_leading_zero, element_of}
use Rattle.vm_field.proofs.Algebra.{element_from-below, element_from-above, element_from-some}

-- the number that digits write behind n
abbrev read_on : ℕ → List ℕ → ℕ
read_on n [] = n
read_on n (c ∷ cs) = read_on (10 * n + (c - 48)) cs

own : IsNumeralModel (λ ds. all_ascii_digits ds ≡ true) (read_on 0)
own = numerals_by_fold _ (search rules) read_on (search rules)

decimal_number-is : (n : ℕ) (text : List ℕ) → decimal_number n text ≡ cond (all_ascii_digits text) (Some (read_on n text)) None
unfolding decimal_number
decimal_number-is n [] = refl
decimal_number-is n (c ∷ cs) = go (is_ascii_digit c) (decimal_number-is (10 * n + (c - 48)) cs)
  where
    go : (b : Bool) → decimal_number (10 * n + (c - 48)) cs ≡ cond (all_ascii_digits cs) (Some (read_on (10 * n + (c - 48)) cs)) None
        → cond b (decimal_number (10 * n + (c - 48)) cs) None ≡ cond (b && all_ascii_digits cs) (Some (read_on (10 * n + (c - 48)) cs)) None
    go true rest = rest
    go false rest = refl

-- a text without a leading zero is `0` alone, or begins with another byte
leading : (text : List ℕ) → 0 < length text → (get_or text 0 0 ≡ 48 → length text ≡ 1) → is_without_leading_zero text ≡ true
leading [] some only = absurd (omega arith)
leading (c ∷ []) some only = refl
leading (c ∷ d ∷ cs) some only =
    let other : c ≢ 48 = λ e. absurd (omega (arith, only e)) in
    ap not (ne_eqb c 48 other)

leading_back : (text : List ℕ) → is_without_leading_zero text ≡ true → (0 < length text) × (get_or text 0 0 ≡ 48 → length text ≡ 1)
leading_back [] h = absurd (false≢true h)
leading_back (c ∷ []) h = (omega arith, λ e. refl)
leading_back (c ∷ d ∷ cs) h = (omega arith, λ e. absurd (false≢true (sym (ap not (eq-eqb c 48 e)) ∙ h)))

decimal-leading : (n : ℕ) → n < 2 ^ 64 → is_without_leading_zero (decimal n) ≡ true
decimal-leading n small =
    leading (decimal n) (decimal_nonempty n small)
    (λ e. ⊎_elim (λ zero_is. ap (λ m. length (decimal m)) zero_is ∙ ap length (decimal_digit 0 (lit< tt)))
    (λ above. absurd (omega (arith, first_decimal n above small))) (eq-zero-or-pos n))

-- the decimal of an element is read as the element
pub element_of-decimal : (n : ℕ) → n < prime → element_of (decimal n) ≡ Some n
unfolding element_of
element_of-decimal n below =
    let small : n < 2 ^ 64 = omega arith in
    ap (λ b. cond b (option_and_then element_from (decimal_number 0 (decimal n))) None) (decimal-leading n small)
    ∙ ap (option_and_then element_from)
    (decimal_number-is 0 (decimal n) ∙ ap (λ b. cond b (Some (read_on 0 (decimal n))) None) (digits_decimal own n small)
    ∙ ap Some (digits_value-decimal own n small))
    ∙ element_from-below n below

-- and nothing else is read
pub decimal-element_of : (text : List ℕ) (n : ℕ) → element_of text ≡ Some n → (text ≡ decimal n) × (n < prime)
unfolding element_of
decimal-element_of text n h =
    go (is_without_leading_zero text) refl (all_ascii_digits text) refl
    (ap (λ o. cond (is_without_leading_zero text) (option_and_then element_from o) None) (sym (decimal_number-is 0 text)) ∙ h)
  where
    found : is_without_leading_zero text ≡ true → all_ascii_digits text ≡ true → element_from (read_on 0 text) ≡ Some n
        → (text ≡ decimal n) × (n < prime)
    found first digits same =
        let value : (read_on 0 text ≡ n) × (n < prime) = element_from-some (read_on 0 text) n same in
        let begins = leading_back text first in
        let back : decimal (read_on 0 text) ≡ text = decimal-digits_value own text digits begins.0 begins.1 (omega (arith, value.0, value.1)) in
        (sym back ∙ ap decimal value.0, value.1)

    go : (a : Bool) → is_without_leading_zero text ≡ a → (b : Bool) → all_ascii_digits text ≡ b
        → cond a (option_and_then element_from (cond b (Some (read_on 0 text)) None)) None ≡ Some n → (text ≡ decimal n) × (n < prime)
    go true first true digits same = found first digits same
    go true first false digits same = cc
    go false first b digits same = cc

pub element_of-none : (text : List ℕ) → ((n : ℕ) → n < prime → text ≡ decimal n → ⊥) → element_of text ≡ None
element_of-none text other = go (element_of text) refl
  where
    go : (o : Option ℕ) → element_of text ≡ o → element_of text ≡ None
    go None e = e
    go (Some n) e = let found = decimal-element_of text n e in absurd (other n found.1 found.0)

-- what a reader that answers `element_of` tells of its text
pub decimal_read : (text : List ℕ) (r : Option ℕ) → r ≡ element_of text → IfSome r (λ x. text ≡ decimal x)
decimal_read text None e = tt
decimal_read text (Some x) e = (decimal-element_of text x (sym e)).0

pub read_below : (text : List ℕ) (r : Option ℕ) → r ≡ element_of text → IfSome r (λ x. x < prime)
read_below text None e = tt
read_below text (Some x) e = (decimal-element_of text x (sym e)).1

pub decimal_found : (text : List ℕ) (r : Option ℕ) → r ≡ element_of text → (n : ℕ) → n < prime → text ≡ decimal n → r ≡ Some n
decimal_found text r e n below is = e ∙ ap element_of is ∙ element_of-decimal n below

-- the decimal of any number of 64 bits
pub element_of-any_decimal : (n : ℕ) → n < 2 ^ 64 → element_of (decimal n) ≡ element_from n
element_of-any_decimal n small =
    ⊎_elim (λ below. element_of-decimal n below ∙ sym (element_from-below n below))
    (λ above. element_of-none (decimal n) (λ m below is. absurd (omega (arith, decimal_injective n m small (omega arith) is)))
    ∙ sym (element_from-above n above))
    (cases_lt n prime)
