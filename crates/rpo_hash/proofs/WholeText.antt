-- A text gives constants exactly where it is what is written of them.
use Rattle.std.proofs.Common.{◌≡◌, ℕ, zero, suc, ◌+◌, ◌<◌, ◌==◌, Bool, true, false, cond, List, [], ◌∷◌, ◌++◌, length, Option, Some, None, option_map, option_and_then, ok_or, Result, Ok, Err, decimal, sym, refl, subst, ap, ap₂, ◌∙◌, arith, append_assoc, append-nil, length-append, eqb-true}
use Rattle.std.proofs.lemmas.Bool.{false≢true, and_parts}
use Rattle.std.proofs.lemmas.Fmt.{digits_decimal}
use Rattle.std.proofs.lemmas.List.Elements.{All-head, All-tail}
use Rattle.std.proofs.lemmas.Str.Parse.{numerals_by_value, tells_all_ascii_digits}
use Rattle.std.specs.Char.{is_ascii_digit}
use Rattle.std.specs.Str.{all_ascii_digits}
use Rattle.vm_field.specs.Limits.{number_of_constants}
use Rattle.vm_field.specs.Decimal.{element_of}
use Rattle.vm_field.specs.Field.{prime, AreElements}
use Rattle.vm_field.proofs.DecimalText.{decimal-element_of, element_of-decimal}
use Rattle.vm_field.proofs.Elements.{elements-cons, elements-none}
use Rattle.rpo_hash.specs.ParamText.{one_line, one_element, and_then, element_line, element_lines, nothing_left, parameters_of, text_of}
use Rattle.rpo_hash.specs.declared.params.ParamCause.TheVariants.{Number}
use Rattle.rpo_hash.specs.declared.params.ParamError.{ParamError}
use Rattle.rpo_hash.proofs.TextLines.{Read, put_first, same_read, element_line-some, one_element-at}

same_some : {A : Type 0} (a b : A) → Some a ≡ Some b → a ≡ b
same_some a b e = cc

same_constants : (a b : List ℕ) → ◌≡◌ {A = Result (List ℕ) ParamError} (Ok a) (Ok b) → a ≡ b
same_constants a b e = cc

-- ---- one line

line-parts : (bytes text rest : List ℕ) → one_line bytes ≡ Some (text, rest) → bytes ≡ text ++ (10 ∷ rest)
unfolding one_line
line-parts [] text rest e = cc
line-parts (b ∷ bs) text rest e = go (b == 10) refl (one_line bs) (line-parts bs) e
  where
    go : (t : Bool) → (b == 10) ≡ t → (l : Option (List ℕ × List ℕ)) → ((first later : List ℕ) → l ≡ Some (first, later) → bs ≡ first ++ (10 ∷ later))
        → cond {A = Option (List ℕ × List ℕ)} t (Some ([], bs)) (option_map (λ l. (b ∷ l.0, l.1)) l) ≡ Some (text, rest)
        → b ∷ bs ≡ text ++ (10 ∷ rest)
    go true is l later e =
        ap (λ x. x ∷ bs) (eqb-true b 10 is) ∙ ap (λ (p : List ℕ × List ℕ). p.0 ++ (10 ∷ p.1)) (same_some ([], bs) (text, rest) e)
    go false is None later e = cc
    go false is (Some m) later e =
        ap (λ xs. b ∷ xs) (later m.0 m.1 refl)
        ∙ ap (λ (p : List ℕ × List ℕ). p.0 ++ (10 ∷ p.1)) (same_some (b ∷ m.0, m.1) (text, rest) e)

no_line_feed : (c : ℕ) → is_ascii_digit c ≡ true → (c == 10) ≡ false
no_line_feed c digit = go (c == 10) refl
  where
    go : (b : Bool) → (c == 10) ≡ b → (c == 10) ≡ false
    go true e = absurd (false≢true (sym (ap is_ascii_digit (eqb-true c 10 e)) ∙ digit))
    go false e = e

digits-line : (text rest : List ℕ) → all_ascii_digits text ≡ true → one_line (text ++ (10 ∷ rest)) ≡ Some (text, rest)
unfolding one_line
digits-line [] rest h = refl
digits-line (c ∷ cs) rest h =
    let parts = and_parts (is_ascii_digit c) (all_ascii_digits cs) h in
    ap (λ t. cond t (Some ([], cs ++ (10 ∷ rest))) (option_map (λ l. (c ∷ l.0, l.1)) (one_line (cs ++ (10 ∷ rest))))) (no_line_feed c parts.0)
    ∙ ap (option_map (λ l. (c ∷ l.0, l.1))) (digits-line cs rest parts.1)

decimal-line : (e : ℕ) (rest : List ℕ) → e < prime → one_line (decimal e ++ (10 ∷ rest)) ≡ Some (decimal e, rest)
decimal-line e rest below =
    digits-line (decimal e) rest
    (digits_decimal {P = λ ds. all_ascii_digits ds ≡ true}
    (numerals_by_value (λ ds. all_ascii_digits ds ≡ true) tells_all_ascii_digits) e (omega arith))

-- ---- one element

element-read : (bytes rest : List ℕ) (e : ℕ) → one_element bytes ≡ Some (e, rest) → (bytes ≡ decimal e ++ (10 ∷ rest)) × (e < prime)
unfolding one_element
element-read bytes rest e is = go (one_line bytes) (line-parts bytes) is
  where
    found : (text later : List ℕ) (o : Option ℕ) → element_of text ≡ o → bytes ≡ text ++ (10 ∷ later)
        → option_map {U = ℕ × List ℕ} (λ x. (x, later)) o ≡ Some (e, rest) → (bytes ≡ decimal e ++ (10 ∷ rest)) × (e < prime)
    found text later None none parts same = cc
    found text later (Some x) some parts same =
        let read = decimal-element_of text x some in
        let number : x ≡ e = ap (λ (p : ℕ × List ℕ). p.0) (same_some (x, later) (e, rest) same) in
        let behind : later ≡ rest = ap (λ (p : ℕ × List ℕ). p.1) (same_some (x, later) (e, rest) same) in
        (parts ∙ ap₂ (λ (xs ys : List ℕ). xs ++ (10 ∷ ys)) (read.0 ∙ ap decimal number) behind, omega (arith, read.1))

    go : (l : Option (List ℕ × List ℕ)) → ((first later : List ℕ) → l ≡ Some (first, later) → bytes ≡ first ++ (10 ∷ later))
        → option_and_then {U = ℕ × List ℕ} (λ l. option_map (λ x. (x, l.1)) (element_of l.0)) l ≡ Some (e, rest)
        → (bytes ≡ decimal e ++ (10 ∷ rest)) × (e < prime)
    go None parts same = cc
    go (Some m) parts same = found m.0 m.1 (element_of m.0) refl (parts m.0 m.1 refl) same

element-written : (e : ℕ) (rest : List ℕ) → e < prime → one_element (decimal e ++ (10 ∷ rest)) ≡ Some (e, rest)
element-written e rest below =
    one_element-at (decimal e ++ (10 ∷ rest)) (Some (decimal e, rest)) (sym (decimal-line e rest below))
    ∙ ap (option_map (λ x. (x, rest))) (element_of-decimal e below)

line-read : (n : ℕ) (bytes rest : List ℕ) (e : ℕ) → element_line n bytes ≡ Ok (e, rest) → (bytes ≡ decimal e ++ (10 ∷ rest)) × (e < prime)
unfolding element_line
line-read n [] rest e is = cc
line-read n (b ∷ bs) rest e is = go (one_element (b ∷ bs)) (element-read (b ∷ bs)) is
  where
    go : (o : Option (ℕ × List ℕ)) → ((later : List ℕ) (x : ℕ) → o ≡ Some (x, later) → (b ∷ bs ≡ decimal x ++ (10 ∷ later)) × (x < prime))
        → ok_or {E = ParamError} o (record { line = n; cause = Number }) ≡ Ok (e, rest) → (b ∷ bs ≡ decimal e ++ (10 ∷ rest)) × (e < prime)
    go None read same = cc
    go (Some p) read same = read rest e (cc)

line-written : (n e : ℕ) (rest : List ℕ) → e < prime → element_line n (decimal e ++ (10 ∷ rest)) ≡ Ok (e, rest)
line-written n e rest below =
    element_line-some n (decimal e ++ (10 ∷ rest)) (omega (arith, length-append (decimal e) (10 ∷ rest)))
    ∙ ap (λ o. ok_or o (record { line = n; cause = Number })) (element-written e rest below)

-- ---- lines

pub record AreLines (k : ℕ) (bytes es rest : List ℕ) : Type 0 where
  pub text : bytes ≡ text_of es ++ rest
  pub count : length es ≡ k
  pub below : AreElements es

lines-more : (k e : ℕ) (bytes behind es rest : List ℕ) → (bytes ≡ decimal e ++ (10 ∷ behind)) × (e < prime) → AreLines k behind es rest
    → AreLines (suc k) bytes (e ∷ es) rest
unfolding text_of
lines-more k e bytes behind es rest first later = record {
  text = first.0 ∙ ap (λ xs. decimal e ++ (10 ∷ xs)) later.text ∙ sym (append_assoc (decimal e) (10 ∷ text_of es) rest);
  count = ap suc later.count;
  below = elements-cons e es first.1 later.below;
}

lines-read : (k n : ℕ) (bytes es rest : List ℕ) → element_lines k n bytes ≡ Ok (es, rest) → AreLines k bytes es rest
unfolding element_lines text_of
lines-read zero n bytes es rest is =
    let P : List ℕ × List ℕ → Type 0 = λ p. AreLines 0 bytes p.0 p.1 in
    subst P (same_read ([], bytes) (es, rest) is) (record { text = refl; count = refl; below = elements-none })
lines-read (suc k) n bytes es rest is =
    go (element_line n bytes) (line-read n bytes) (λ (first : ℕ × List ℕ). lines-read k (n + 1) first.1) is
  where
    inner : (first : ℕ × List ℕ) (r : Read) → (bytes ≡ decimal first.0 ++ (10 ∷ first.1)) × (first.0 < prime)
        → ((fs end : List ℕ) → r ≡ Ok (fs, end) → AreLines k first.1 fs end)
        → and_then (put_first first.0) r ≡ Ok (es, rest) → AreLines (suc k) bytes es rest
    inner first (Err e) line later same = cc
    inner first (Ok m) line later same =
        let P : List ℕ × List ℕ → Type 0 = λ p. AreLines (suc k) bytes p.0 p.1 in
        subst P (same_read (first.0 ∷ m.0, m.1) (es, rest) same) (lines-more k first.0 bytes first.1 m.0 m.1 line (later m.0 m.1 refl))

    go : (r : Result (ℕ × List ℕ) ParamError) → ((behind : List ℕ) (e : ℕ) → r ≡ Ok (e, behind) → (bytes ≡ decimal e ++ (10 ∷ behind)) × (e < prime))
        → ((first : ℕ × List ℕ) (fs end : List ℕ) → element_lines k (n + 1) first.1 ≡ Ok (fs, end) → AreLines k first.1 fs end)
        → and_then (λ first. and_then (put_first first.0) (element_lines k (n + 1) first.1)) r ≡ Ok (es, rest) → AreLines (suc k) bytes es rest
    go (Err e) line later same = cc
    go (Ok first) line later same = inner first (element_lines k (n + 1) first.1) (line first.1 first.0 refl) (later first) same

lines-written : (n : ℕ) (es : List ℕ) → AreElements es → element_lines (length es) n (text_of es) ≡ Ok (es, [])
unfolding element_lines text_of
lines-written n [] below = refl
lines-written n (e ∷ es) below =
    ap (and_then (λ first. and_then (put_first first.0) (element_lines (length es) (n + 1) first.1)))
    (line-written n e (text_of es) (All-head (λ x. x < prime) e es below))
    ∙ ap (and_then (put_first e)) (lines-written (n + 1) es (All-tail (λ x. x < prime) e es below))

-- ---- the whole text

pub text-read : (text constants : List ℕ) → parameters_of text ≡ Ok constants
    → (text ≡ text_of constants) × (length constants ≡ number_of_constants) × AreElements constants
unfolding parameters_of
text-read text constants is = go (element_lines 168 1 text) (lines-read 168 1 text) is
  where
    end : (es rest : List ℕ) → AreLines 168 text es rest → and_then (λ _. Ok es) (nothing_left 169 rest) ≡ Ok constants
        → (text ≡ text_of constants) × (length constants ≡ number_of_constants) × AreElements constants
    end es [] lines same =
        let P : List ℕ → Type 0 = λ cs. (text ≡ text_of cs) × (length cs ≡ number_of_constants) × AreElements cs in
        subst P (same_constants es constants same) (lines.text ∙ append-nil (text_of es), lines.count, lines.below)
    end es (b ∷ bs) lines same = cc

    go : (r : Read) → ((es rest : List ℕ) → r ≡ Ok (es, rest) → AreLines 168 text es rest)
        → and_then (λ read. and_then (λ _. Ok read.0) (nothing_left 169 read.1)) r ≡ Ok constants
        → (text ≡ text_of constants) × (length constants ≡ number_of_constants) × AreElements constants
    go (Err e) lines same = cc
    go (Ok m) lines same = end m.0 m.1 (lines m.0 m.1 refl) same

pub read-text : (text constants : List ℕ) → text ≡ text_of constants → length constants ≡ number_of_constants → AreElements constants
    → parameters_of text ≡ Ok constants
unfolding parameters_of
read-text text constants is size below =
    ap (and_then (λ read. and_then (λ _. Ok read.0) (nothing_left 169 read.1)))
    (ap₂ (λ k bytes. element_lines k 1 bytes) (sym size) is ∙ lines-written 1 constants below)
