-- Hexadecimal digits: what the crate `hex` makes of a number's bytes, and reading against writing.
use Rattle.std.proofs.Common.{◌≡◌, ◌≢◌, ℕ, zero, suc, ◌+◌, ◌*◌, ◌/◌, ◌%◌, ◌^◌, Bool, true, cond, List, [], ◌∷◌, ◌++◌, length, slice_index, get_or, take, drop, Option, Some, None, Ok, Err, Result, option_map, option_and_then, sym, refl, ap, ap₂, ◌∙◌, arith, pow-suc, drop-drop, append_assoc, length-append, subst, IsAscii, ◌&&◌, nat_lt, ltb-true, ne_eqb, ◌==◌}
use Rattle.std.proofs.Math.Nat.{div-div-eq-div-mul, div-one}
use Rattle.std.proofs.Math.Seq.{take-append_seam, drop-append_seam}
use Rattle.std.specs.Result.{MatchResult}
use borrow.Rule.Slice.PartMut.{put_mid}
use Rattle.std.proofs.lemmas.Bool.{and_parts}
use Rattle.std.specs.Int.{bytes_high_first, byte_at, to_be_bytes, from_be_bytes, w64}
use Rattle.hex.proofs.HexLemmas.{IsAscii-encode_with}
use Rattle.std.proofs.lemmas.Str.Ascii.{IsAscii-nil, IsAscii-cons}
use Rattle.std.proofs.lemmas.Str.{IsAscii-append}
use Rattle.hex.specs.Hex.{lower_digits, encode_with, encode_lower, hex_digit_value, decode_pairs, decode_sized, digit_or_error, ◌>>=◌}
use Rattle.hex.specs.declared.error.FromHexError.{FromHexError}
use Rattle.std.specs.Result.{result_ok}
use Rattle.vm_field.specs.Field.{element_from}
use Rattle.vm_field.specs.WordText.{hex_digits, word_hex, hex_number, element_of_hex, elements_of_hex, word_of_hex}

-- ---- writing

pairs : ℕ → ℕ
pairs zero = zero
pairs (suc k) = suc (suc (pairs k))

power_of_pairs : (k : ℕ) → 16 ^ pairs k ≡ 256 ^ k
unfolding pairs
power_of_pairs zero = refl
power_of_pairs (suc k) =
    pow-suc 16 (suc (pairs k)) ∙ ap (λ x. x * 16) (pow-suc 16 (pairs k)) ∙ omega (arith, power_of_pairs k, pow-suc 256 k)

byte_is : (k n : ℕ) → byte_at k n ≡ n / 256 ^ k % 256
byte_is zero n = ap (λ x. x % 256) (sym (div-one n))
byte_is (suc k) n = refl

-- the two digits of a byte
high_digit : (k n : ℕ) → byte_at k n / 16 ≡ n / 16 ^ suc (pairs k) % 16
high_digit k n =
    ap (λ x. x / 16) (byte_is k n) ∙ parts (n / 256 ^ k)
    ∙ ap (λ x. x % 16) (div-div-eq-div-mul n (256 ^ k) 16 ∙ ap (λ x. n / x) (ap (λ x. x * 16) (sym (power_of_pairs k)) ∙ sym (pow-suc 16 (pairs k))))
  where
    parts : (x : ℕ) → x % 256 / 16 ≡ x / 16 % 16
    parts x = omega arith

low_digit : (k n : ℕ) → byte_at k n % 16 ≡ n / 16 ^ pairs k % 16
low_digit k n = ap (λ x. x % 16) (byte_is k n) ∙ parts (n / 256 ^ k) ∙ ap (λ x. n / x % 16) (sym (power_of_pairs k))
  where
    parts : (x : ℕ) → x % 256 % 16 ≡ x % 16
    parts x = omega arith

encode-bytes : (k n : ℕ) → encode_lower (bytes_high_first k n) ≡ hex_digits (pairs k) n
unfolding encode_with hex_digits pairs
encode-bytes zero n = refl
encode-bytes (suc k) n =
    ap₂ (λ (x y : ℕ). slice_index lower_digits x ∷ slice_index lower_digits y ∷ encode_lower (bytes_high_first k n)) (high_digit k n) (low_digit k n)
    ∙ ap (λ (ds : List ℕ). slice_index lower_digits (n / 16 ^ suc (pairs k) % 16) ∷ slice_index lower_digits (n / 16 ^ pairs k % 16)
    ∷ ds) (encode-bytes k n)

-- the crate `hex` writes a number's eight bytes as its sixteen digits
pub encode_lower-to_be_bytes : (n : ℕ) → encode_lower (to_be_bytes w64 n) ≡ hex_digits 16 n
unfolding pairs
encode_lower-to_be_bytes n = encode-bytes 8 n

pub encode_lower-append : (xs ys : List ℕ) → encode_lower (xs ++ ys) ≡ encode_lower xs ++ encode_lower ys
unfolding encode_with
encode_lower-append [] ys = refl
encode_lower-append (b ∷ xs) ys =
    ap (λ (ds : List ℕ). slice_index lower_digits (b / 16) ∷ slice_index lower_digits (b % 16) ∷ ds) (encode_lower-append xs ys)

-- ---- reading

-- the number of bytes that stand behind the number n
after_bytes : ℕ → List ℕ → ℕ
after_bytes n [] = n
after_bytes n (b ∷ bs) = after_bytes (256 * n + b) bs

pair_step : (n high low i : ℕ) (rest : List ℕ) (h l : Option ℕ) (r : Result (List ℕ) FromHexError)
    → ((m : ℕ) → hex_number m rest ≡ option_map (after_bytes m) (result_ok r))
    → option_and_then (λ d. option_and_then (λ e. hex_number (16 * (16 * n + d) + e) rest) l) h
    ≡ option_map (after_bytes n)
    (result_ok ((digit_or_error high i h >>= (λ x. digit_or_error low (i + 1) l >>= (λ y. Ok (x * 16 + y)))) >>=
    (λ byte. r >>= (λ bytes. Ok (byte ∷ bytes)))))
unfolding after_bytes
pair_step n high low i rest None l r ih = refl
pair_step n high low i rest (Some d) None r ih = refl
pair_step n high low i rest (Some d) (Some e) (Err x) ih = ih (16 * (16 * n + d) + e)
pair_step n high low i rest (Some d) (Some e) (Ok bytes) ih =
    ih (16 * (16 * n + d) + e) ∙ ap (λ m. Some (after_bytes m bytes)) (omega arith)

hex_number-pairs : (i n : ℕ) (text : List ℕ) → length text % 2 ≡ 0
    → hex_number n text ≡ option_map (after_bytes n) (result_ok (decode_pairs i text))
unfolding hex_number decode_pairs after_bytes
hex_number-pairs i n [] even = refl
hex_number-pairs i n (c ∷ []) even = absurd (omega arith)
hex_number-pairs i n (high ∷ low ∷ rest) even =
    pair_step n high low i rest (hex_digit_value high) (hex_digit_value low) (decode_pairs (i + 2) rest)
    (λ m. hex_number-pairs (i + 2) m rest (omega arith))

eight_bytes : (bytes : List ℕ) → length bytes ≡ 8 → after_bytes 0 bytes ≡ from_be_bytes w64 bytes
unfolding after_bytes
eight_bytes (a ∷ b ∷ c ∷ d ∷ e ∷ f ∷ g ∷ h ∷ []) len = omega arith
eight_bytes _ len = absurd (omega arith)

sixteen_digits : (text : List ℕ) → length text ≡ 16 → decode_sized text 8 ≡ decode_pairs 0 text
sixteen_digits text len = rw len refl

read_number : (text : List ℕ) (r : Result (List ℕ) FromHexError) → length text ≡ 16 → decode_sized text 8 ≡ r
    → hex_number 0 text ≡ option_map (after_bytes 0) (result_ok r)
read_number text r len e =
    hex_number-pairs 0 0 text (omega arith) ∙ ap (λ x. option_map (after_bytes 0) (result_ok x)) (sym (sixteen_digits text len) ∙ e)

-- what the crate `hex` reads from sixteen digits is their number's eight bytes
pub element_of_hex-decoded : (text bytes : List ℕ) → length text ≡ 16 → length bytes ≡ 8 → decode_sized text 8 ≡ Ok bytes
    → element_of_hex text ≡ element_from (from_be_bytes w64 bytes)
unfolding element_of_hex
element_of_hex-decoded text bytes len eight e =
    ap (λ o. option_and_then element_from o) (read_number text (Ok bytes) len e) ∙ ap element_from (eight_bytes bytes eight)

pub element_of_hex-refused : (text : List ℕ) (e : FromHexError) → length text ≡ 16 → decode_sized text 8 ≡ Err e → element_of_hex text ≡ None
unfolding element_of_hex
element_of_hex-refused text e len r = ap (λ o. option_and_then element_from o) (read_number text (Err e) len r)

-- ---- for the functions that read and write

pub element_decoded : (text out : List ℕ) (r : Result Unit FromHexError) (u : Unit) → length text ≡ 16 → length out ≡ 8
    → MatchResult (decode_sized text 8) (λ bytes. (r ≡ Ok tt) × (out ≡ bytes)) (λ e. r ≡ Err e)
    → result_ok r ≡ Some u → element_of_hex text ≡ element_from (from_be_bytes w64 out)
element_decoded text out r u len eight told some = go (decode_sized text 8) refl told
  where
    go : (d : Result (List ℕ) FromHexError) → decode_sized text 8 ≡ d
        → MatchResult d (λ bytes. (r ≡ Ok tt) × (out ≡ bytes)) (λ e. r ≡ Err e) → element_of_hex text ≡ element_from (from_be_bytes w64 out)
    go (Ok bytes) is told = element_of_hex-decoded text out len eight (is ∙ ap Ok (sym told.1))
    go (Err e) is told =
        let none : None ≡ Some u = ap result_ok (sym told) ∙ some in
        cc

pub element_refused : (text out : List ℕ) (r : Result Unit FromHexError) → length text ≡ 16
    → MatchResult (decode_sized text 8) (λ bytes. (r ≡ Ok tt) × (out ≡ bytes)) (λ e. r ≡ Err e)
    → result_ok r ≡ None → element_of_hex text ≡ None
element_refused text out r len told none = go (decode_sized text 8) refl told
  where
    go : (d : Result (List ℕ) FromHexError) → decode_sized text 8 ≡ d
        → MatchResult d (λ bytes. (r ≡ Ok tt) × (out ≡ bytes)) (λ e. r ≡ Err e) → element_of_hex text ≡ None
    go (Ok bytes) is told =
        let some : None ≡ Some tt = sym none ∙ ap result_ok told.0 in
        cc
    go (Err e) is told = element_of_hex-refused text e len is

joined : Option ℕ → Option (List ℕ) → Option (List ℕ)
joined e es = option_and_then (λ x. option_and_then (λ xs. Some (x ∷ xs)) es) e

-- the word of four elements, where each is there
abbrev pub word_of_four : Option ℕ → Option ℕ → Option ℕ → Option ℕ → Option (List ℕ)
word_of_four (Some a) (Some b) (Some c) (Some d) = Some (a ∷ b ∷ c ∷ d ∷ [])
word_of_four _ _ _ _ = None

four_joined : (a b c d : Option ℕ) → joined a (joined b (joined c (joined d (Some [])))) ≡ word_of_four a b c d
unfolding joined
four_joined (Some a) (Some b) (Some c) (Some d) = refl
four_joined _ _ _ _ = refl

pub word_of_hex-parts : (text : List ℕ) (a b c d : Option ℕ) → length text ≡ 64 → a ≡ element_of_hex (take 16 text)
    → b ≡ element_of_hex (take 16 (drop 16 text)) → c ≡ element_of_hex (take 16 (drop 32 text)) → d ≡ element_of_hex (take 16 (drop 48 text))
    → word_of_four a b c d ≡ word_of_hex text
unfolding word_of_hex elements_of_hex joined
word_of_hex-parts text a b c d len ea eb ec ed =
    sym (four_joined a b c d) ∙ ap₂ (λ x y. joined x (joined y (joined c (joined d (Some []))))) ea eb
    ∙ ap₂ (λ x y. joined (element_of_hex (take 16 text)) (joined (element_of_hex (take 16 (drop 16 text))) (joined x (joined y (Some [])))))
    (ec ∙ ap (λ t. element_of_hex (take 16 t)) (sym (drop-drop 16 16 text)))
    (ed ∙ ap (λ t. element_of_hex (take 16 t)) (sym (ap (drop 16) (drop-drop 16 16 text) ∙ drop-drop 16 32 text)))
    ∙ ap (λ n. cond (n == 64) (elements_of_hex 4 text) None) (sym len)

pub word_of_hex-other_length : (text : List ℕ) → length text ≢ 64 → word_of_hex text ≡ None
unfolding word_of_hex
word_of_hex-other_length text other = ap (λ b. cond b (elements_of_hex 4 text) None) (ne_eqb (length text) 64 other)

-- a write of k bytes behind what is done
pub put_next : (a k : ℕ) (done rest ys : List ℕ) → length done ≡ a → put_mid a k (done ++ rest) ys ≡ done ++ (ys ++ drop k rest)
put_next a k done rest ys len =
    ap₂ (λ (xs zs : List ℕ). xs ++ (ys ++ drop k zs))
    (ap (λ n. take n (done ++ rest)) (sym len) ∙ take-append_seam done rest)
    (ap (λ n. drop n (done ++ rest)) (sym len) ∙ drop-append_seam done rest)

-- four elements, each known by its place
pub four_elements : (xs : List ℕ) (a b c d i j k l : ℕ) → length xs ≡ 4 → a ≡ get_or xs 0 i → b ≡ get_or xs 1 j → c ≡ get_or xs 2 k
    → d ≡ get_or xs 3 l → xs ≡ a ∷ b ∷ c ∷ d ∷ []
four_elements (x ∷ y ∷ z ∷ u ∷ []) a b c d i j k l len ea eb ec ed = cc
four_elements _ a b c d i j k l len ea eb ec ed = absurd (omega arith)

-- the bytes of four numbers, written one behind another
pub four_writes : (a b c d : ℕ) (p q r s rest : List ℕ) → p ≡ to_be_bytes w64 a → q ≡ to_be_bytes w64 b → r ≡ to_be_bytes w64 c
    → s ≡ to_be_bytes w64 d → drop 8 (drop 8 (drop 8 rest)) ≡ []
    → encode_lower (put_mid 24 8 (put_mid 16 8 (put_mid 8 8 (p ++ rest) q) r) s) ≡ word_hex (a ∷ b ∷ c ∷ d ∷ [])
unfolding word_hex encode_with
four_writes a b c d p q r s rest ep eq er es none =
    ap encode_lower bytes ∙ encode_lower-append p (q ++ (r ++ (s ++ [])))
    ∙ ap₂ ◌++◌ (written a p ep)
    (encode_lower-append q (r ++ (s ++ []))
    ∙ ap₂ ◌++◌ (written b q eq)
    (encode_lower-append r (s ++ []) ∙ ap₂ ◌++◌ (written c r er) (encode_lower-append s [] ∙ ap₂ ◌++◌ (written d s es) nothing)))
  where
    nothing : encode_lower [] ≡ []
    nothing = refl

    written : (n : ℕ) (xs : List ℕ) → xs ≡ to_be_bytes w64 n → encode_lower xs ≡ hex_digits 16 n
    written n xs e = ap encode_lower e ∙ encode_lower-to_be_bytes n

    eight : (n : ℕ) (xs : List ℕ) → xs ≡ to_be_bytes w64 n → length xs ≡ 8
    eight n xs e = ap length e

    two : put_mid 8 8 (p ++ rest) q ≡ (p ++ q) ++ drop 8 rest
    two = put_next 8 8 p rest q (eight a p ep) ∙ sym (append_assoc p q (drop 8 rest))

    three : put_mid 16 8 ((p ++ q) ++ drop 8 rest) r ≡ ((p ++ q) ++ r) ++ drop 8 (drop 8 rest)
    three =
        put_next 16 8 (p ++ q) (drop 8 rest) r (omega (arith, length-append p q, eight a p ep, eight b q eq))
        ∙ sym (append_assoc (p ++ q) r (drop 8 (drop 8 rest)))

    four : put_mid 24 8 (((p ++ q) ++ r) ++ drop 8 (drop 8 rest)) s ≡ ((p ++ q) ++ r) ++ (s ++ drop 8 (drop 8 (drop 8 rest)))
    four =
        put_next 24 8 ((p ++ q) ++ r) (drop 8 (drop 8 rest)) s
        (omega (arith, length-append (p ++ q) r, length-append p q, eight a p ep, eight b q eq, eight c r er))

    bytes : put_mid 24 8 (put_mid 16 8 (put_mid 8 8 (p ++ rest) q) r) s ≡ p ++ (q ++ (r ++ (s ++ [])))
    bytes =
        ap (λ xs. put_mid 24 8 (put_mid 16 8 xs r) s) two ∙ ap (λ xs. put_mid 24 8 xs s) three ∙ four
        ∙ ap (λ xs. ((p ++ q) ++ r) ++ (s ++ xs)) none ∙ append_assoc (p ++ q) r (s ++ []) ∙ append_assoc p q (r ++ (s ++ []))

abbrev all_ascii : List ℕ → Bool
all_ascii [] = true
all_ascii (b ∷ bs) = nat_lt b 128 && all_ascii bs

IsAscii-from_test : (bs : List ℕ) → all_ascii bs ≡ true → IsAscii bs
IsAscii-from_test [] h = IsAscii-nil
IsAscii-from_test (b ∷ bs) h =
    let parts = and_parts (nat_lt b 128) (all_ascii bs) h in
    IsAscii-cons b bs (ltb-true b 128 parts.0) (IsAscii-from_test bs parts.1)

-- a word's text is ASCII
pub IsAscii-word_hex : (w : List ℕ) → IsAscii (word_hex w)
unfolding word_hex
IsAscii-word_hex [] = IsAscii-nil
IsAscii-word_hex (e ∷ es) =
    IsAscii-append (hex_digits 16 e) (word_hex es)
    (subst IsAscii (encode_lower-to_be_bytes e) (IsAscii-encode_with lower_digits (to_be_bytes w64 e) lower_ascii)) (IsAscii-word_hex es)
  where
    lower_ascii : IsAscii lower_digits
    lower_ascii = IsAscii-from_test lower_digits refl
