-- A number's bytes are the only ones that read as it.
use Rattle.table_file.proofs.Words.{◌≡◌, ℕ, zero, suc, ◌+◌, ◌*◌, ◌/◌, ◌%◌, ◌^◌, ◌<◌, ◌≤◌, Bool, true, false, cond, ltb, List, [], ◌∷◌, ◌++◌, length, drop}
use Rattle.table_file.proofs.Words.{All, Result, Ok, Err, refl, sym, ap, ap₂, ◌∙◌, arith, ltb-false, le-ltb, drop-drop, length-append, length-drop}
use Rattle.table_file.proofs.Words.{little_bytes, little_number, little_from-cons, little_number-reads_back, length-bytes_low_first, FileCause, FileError}
use Rattle.table_file.proofs.Words.{Bad, number_at}
use Rattle.std.proofs.Math.Nat.{div-div-eq-div-mul, pow-succ'}
use Rattle.std.proofs.lemmas.List.Elements.{All-drop, All-tail}
use Rattle.std.specs.Int.{byte_at, bytes_low_first}
use Rattle.table_file.specs.declared.cause.FileCause.TheVariants as cause

-- each number of a list is a byte
abbrev pub AreBytes : List ℕ → Type 0
AreBytes bytes = All (λ b. b < 256) bytes

byte_at-suc : (k x : ℕ) → byte_at (suc k) x ≡ byte_at k (x / 256)
byte_at-suc zero x = refl
byte_at-suc (suc k) x =
    ap (λ (y : ℕ). y % 256) (ap (λ (p : ℕ). x / p) (pow-succ' 256 (suc k)) ∙ sym (div-div-eq-div-mul x 256 (256 ^ suc k)))

low_first-suc : (j n x : ℕ) → bytes_low_first (suc j) n x ≡ bytes_low_first j n (x / 256)
low_first-suc j zero x = refl
low_first-suc j (suc n) x = ap₂ (λ (b : ℕ) (bs : List ℕ). b ∷ bs) (byte_at-suc j x) (low_first-suc (suc j) n x)

-- bytes are those of the number that they spell
spelled : (n : ℕ) (ys : List ℕ) → n ≤ length ys → AreBytes ys → little_bytes n (little_number n ys) ++ drop n ys ≡ ys
spelled zero ys len low = refl
spelled (suc n) [] len low = absurd (omega arith)
spelled (suc n) (b ∷ ys) len low =
    let r = little_number n ys in
    let value : little_number (suc n) (b ∷ ys) ≡ b + 256 * r = ap (λ (x : ℕ). b + 256 * x) (little_from-cons 0 n b ys) in
    let byte : b < 256 = low 0 0 (omega arith) in
    let first : (b + 256 * r) % 256 ≡ b = omega arith in
    let above : (b + 256 * r) / 256 ≡ r = omega arith in
    ap (λ (v : ℕ). bytes_low_first 0 (suc n) v ++ drop n ys) value
    ∙ ap₂ (λ (x : ℕ) (xs : List ℕ). x ∷ (xs ++ drop n ys)) first
    (low_first-suc 0 n (b + 256 * r) ∙ ap (bytes_low_first 0 n) above)
    ∙ ap (λ (xs : List ℕ). b ∷ xs) (spelled n ys (omega arith) (All-tail (λ x. x < 256) b ys low))

picked : (ends passes : Bool) (e f : FileError) (r : Result ℕ FileError) (n x : ℕ) → r ≡ Ok n
    → cond ends (Err e) (cond passes r (Err f)) ≡ Ok x → (ends ≡ false) × (passes ≡ true) × (n ≡ x)
picked true passes e f r n x is h = cc
picked false false e f r n x is h = cc
picked false true e f r n x is h = (refl, refl, cc)

module _ (bytes : List ℕ) (size : ℕ) (why : FileCause) (test : ℕ → Bool) where
  -- what a good number says
  pub number-says : (at x : ℕ) → number_at bytes size why test at ≡ Ok x
      → (at + size ≤ length bytes) × (test (little_number size (drop at bytes)) ≡ true) × (little_number size (drop at bytes) ≡ x)
  unfolding number_at
  number-says at x is =
      let n = little_number size (drop at bytes) in
      let h : (ltb (length bytes) (at + size) ≡ false) × (test n ≡ true) × (n ≡ x)
      = picked (ltb (length bytes) (at + size)) (test n) (Bad at cause.Ended) (Bad at why) (Ok n) n x refl is in
      (ltb-false (length bytes) (at + size) h.0, h.1, h.2)

  pub number-tested : (at x : ℕ) → number_at bytes size why test at ≡ Ok x → test x ≡ true
  number-tested at x is = let h = number-says at x is in sym (ap test h.2) ∙ h.1

  -- the bytes of a good number are its own
  pub number-written : (at x : ℕ) → AreBytes bytes → number_at bytes size why test at ≡ Ok x
      → little_bytes size x ++ drop (at + size) bytes ≡ drop at bytes
  number-written at x low is =
      let h = number-says at x is in
      let within : at + size ≤ length bytes = h.0 in
      let long : size ≤ length (drop at bytes) = omega (arith, length-drop at bytes, within) in
      ap₂ (λ (n : ℕ) (rest : List ℕ). little_bytes size n ++ rest) (sym h.2) (sym (drop-drop size at bytes))
      ∙ spelled size (drop at bytes) long (All-drop (λ b. b < 256) at bytes low)

  -- a number's bytes read as it
  pub number-reads : (at x : ℕ) (rest : List ℕ) → 1 ≤ size → x < 256 ^ size → test x ≡ true
      → drop at bytes ≡ little_bytes size x ++ rest → number_at bytes size why test at ≡ Ok x
  unfolding number_at
  number-reads at x rest some fits good is =
      let value : little_number size (drop at bytes) ≡ x = ap (little_number size) is ∙ little_number-reads_back size x rest fits in
      let whole : length (drop at bytes) ≡ size + length rest =
      ap length is ∙ length-append (little_bytes size x) rest ∙ ap (λ (n : ℕ). n + length rest) (length-bytes_low_first 0 size x) in
      let long : at + size ≤ length bytes = omega (arith, whole, length-drop at bytes) in
      rw (value, good, le-ltb (length bytes) (at + size) long) refl
