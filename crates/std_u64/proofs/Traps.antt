-- The traps of the lists, as tests of limbs.
use Rattle.std.proofs.Common.{◌≡◌, ℕ, ◌+◌, ◌/◌, ◌^◌, Bool, true, false, ◌==◌, ◌&&◌, not, nat_lt, if◌then◌else◌, Option, Some, None, inl, inr, refl, ◌∙◌, ap, arith, lt-ltb, le-ltb, eq-eqb, ne_eqb}
use Rattle.std.proofs.lemmas.Bool.{cases_lt}
use Rattle.vm_field.specs.Field.{felt_add, felt_mul, felt_sub}
use Rattle.vm_ops.specs.declared.cause.Cause.{Cause}
use Rattle.vm_ops.specs.declared.cause.Cause.TheVariants as causes
use Rattle.vm_ops.specs.Values.{bit_of, is_bit, is_u32, or_else, unless}
use Rattle.masm_effects.specs.Effects.{difference}
use Rattle.std_u64.specs.Outcomes.{is_u64, number}
use Rattle.std_u64.proofs.Arithmetic.{Limbs, limbs-of, carry-small, differences, last_borrow, low_carry, or-bits}

-- NotU32 unless all limbs fit, else what comes later
abbrev pub unless_wide : Bool → Option Cause → Option Cause
unless_wide fit later = if not fit then Some causes.NotU32 else later

-- the low limbs are tested, and then the high ones with another number
wide-parts : (b1 b0 a1 a0 other : Bool) (later own : Option Cause) → (b1 && b0 && a1 && a0 ≡ true → other ≡ true)
    → (b1 && b0 && a1 && a0 ≡ true → later ≡ own)
    → or_else (unless (a0 && b0) causes.NotU32) (or_else (unless (b1 && a1 && other) causes.NotU32) later)
    ≡ unless_wide (b1 && b0 && a1 && a0) own
wide-parts true true true true other later own fits same = rw (fits refl) (same refl)
wide-parts true true true false other later own fits same = refl
wide-parts true true false true other later own fits same = refl
wide-parts true true false false other later own fits same = refl
wide-parts true false true true other later own fits same = refl
wide-parts true false true false other later own fits same = refl
wide-parts true false false true other later own fits same = refl
wide-parts true false false false other later own fits same = refl
wide-parts false true true true other later own fits same = refl
wide-parts false true true false other later own fits same = refl
wide-parts false true false true other later own fits same = refl
wide-parts false true false false other later own fits same = refl
wide-parts false false true true other later own fits same = refl
wide-parts false false true false other later own fits same = refl
wide-parts false false false true other later own fits same = refl
wide-parts false false false false other later own fits same = refl

-- the traps of a sum
pub sum-traps : (b1 b0 a1 a0 : ℕ) (later own : Option Cause) → (Limbs b1 b0 a1 a0 → later ≡ own)
    → or_else (unless (is_u32 a0 && is_u32 b0) causes.NotU32)
    (or_else (unless (is_u32 b1 && is_u32 a1 && is_u32 (low_carry b0 a0)) causes.NotU32) later)
    ≡ unless_wide (is_u32 b1 && is_u32 b0 && is_u32 a1 && is_u32 a0) own
sum-traps b1 b0 a1 a0 later own same =
    wide-parts (is_u32 b1) (is_u32 b0) (is_u32 a1) (is_u32 a0) (is_u32 (low_carry b0 a0)) later own
    (λ fit. lt-ltb (low_carry b0 a0) (2 ^ 32) (carry-small b1 b0 a1 a0 (limbs-of b1 b0 a1 a0 fit)))
    (λ fit. same (limbs-of b1 b0 a1 a0 fit))

-- both pairs of limbs are tested
wide-pairs : (b1 b0 a1 a0 : Bool) (later own : Option Cause) → (b1 && b0 && a1 && a0 ≡ true → later ≡ own)
    → or_else (unless (b0 && a0) causes.NotU32) (or_else (unless (b1 && a1) causes.NotU32) later)
    ≡ unless_wide (b1 && b0 && a1 && a0) own
wide-pairs true true true true later own same = same refl
wide-pairs true true true false later own same = refl
wide-pairs true true false true later own same = refl
wide-pairs true true false false later own same = refl
wide-pairs true false true true later own same = refl
wide-pairs true false true false later own same = refl
wide-pairs true false false true later own same = refl
wide-pairs true false false false later own same = refl
wide-pairs false true true true later own same = refl
wide-pairs false true true false later own same = refl
wide-pairs false true false true later own same = refl
wide-pairs false true false false later own same = refl
wide-pairs false false true true later own same = refl
wide-pairs false false true false later own same = refl
wide-pairs false false false true later own same = refl
wide-pairs false false false false later own same = refl

-- both numbers are tested
wide-words : (b1 b0 a1 a0 : Bool)
    → or_else (unless (b1 && b0) causes.NotU32) (or_else (unless (a1 && a0) causes.NotU32) None)
    ≡ unless_wide (b1 && b0 && a1 && a0) None
wide-words true true true true = refl
wide-words b1 b0 a1 a0 = refl

bit-fits : (test : Bool) → is_u32 (bit_of test) ≡ true
bit-fits true = refl
bit-fits false = refl

bit-is-bit : (test : Bool) → is_bit (bit_of test) ≡ true
bit-is-bit true = refl
bit-is-bit false = refl

two-free : (x y z w : Bool) (later : Option Cause) → x ≡ true → y ≡ true → z ≡ true → w ≡ true
    → or_else (unless (x && y) causes.NotU32) (or_else (unless (z && w) causes.NotBinary) later) ≡ later
two-free true true true true later ex ey ez ew = refl
two-free false y z w later ex ey ez ew = cc
two-free true false z w later ex ey ez ew = cc
two-free true true false w later ex ey ez ew = cc
two-free true true true false later ex ey ez ew = cc

-- The traps of a difference. The borrows are bits, and what is subtracted last is small.
pub difference-traps : (b1 b0 a1 a0 : ℕ) (later own : Option Cause) → (Limbs b1 b0 a1 a0 → later ≡ own)
    → or_else (unless (is_u32 b0 && is_u32 a0) causes.NotU32) (or_else (unless (is_u32 b1 && is_u32 a1) causes.NotU32)
    (or_else (unless (is_u32 (bit_of (nat_lt a0 b0)) && is_u32 (difference a1 b1)) causes.NotU32)
    (or_else (unless (is_bit (bit_of (nat_lt a1 b1)) && is_bit (bit_of (last_borrow b1 b0 a1 a0))) causes.NotBinary) later)))
    ≡ unless_wide (is_u32 b1 && is_u32 b0 && is_u32 a1 && is_u32 a0) own
difference-traps b1 b0 a1 a0 later own same =
    wide-pairs (is_u32 b1) (is_u32 b0) (is_u32 a1) (is_u32 a0) _ own
    (λ fit. two-free (is_u32 (bit_of (nat_lt a0 b0))) (is_u32 (difference a1 b1)) (is_bit (bit_of (nat_lt a1 b1)))
    (is_bit (bit_of (last_borrow b1 b0 a1 a0))) later (bit-fits (nat_lt a0 b0))
    (lt-ltb (difference a1 b1) (2 ^ 32) (omega arith)) (bit-is-bit (nat_lt a1 b1)) (bit-is-bit (last_borrow b1 b0 a1 a0))
    ∙ same (limbs-of b1 b0 a1 a0 fit))

two-bits : (x y : Bool)
    → or_else (unless (is_bit (bit_of x) && is_bit (bit_of y)) causes.NotBinary) None ≡ None
two-bits true true = refl
two-bits true false = refl
two-bits false true = refl
two-bits false false = refl

last-free : (first second last : Option Cause) → last ≡ None → or_else first (or_else second last) ≡ or_else first (or_else second None)
last-free first second last free = rw free refl

-- the traps of a comparison of limbs
pub equal-traps : (b1 b0 a1 a0 : ℕ)
    → or_else (unless (is_u32 b1 && is_u32 b0) causes.NotU32) (or_else (unless (is_u32 a1 && is_u32 a0) causes.NotU32)
    (or_else (unless (is_bit (bit_of (b0 == a0)) && is_bit (bit_of (a1 == b1))) causes.NotBinary) None))
    ≡ unless_wide (is_u32 b1 && is_u32 b0 && is_u32 a1 && is_u32 a0) None
equal-traps b1 b0 a1 a0 =
    last-free _ _ _ (two-bits (b0 == a0) (a1 == b1)) ∙ wide-words (is_u32 b1) (is_u32 b0) (is_u32 a1) (is_u32 a0)

-- the cell of the borrow
abbrev pub borrow_cell : ℕ → ℕ → ℕ → ℕ → ℕ
borrow_cell b1 b0 a1 a0 =
    felt_sub (felt_add (bit_of (nat_lt a1 b1)) (bit_of (last_borrow b1 b0 a1 a0)))
    (felt_mul (bit_of (nat_lt a1 b1)) (bit_of (last_borrow b1 b0 a1 a0)))

pub borrow-cell : (b1 b0 a1 a0 : ℕ) → Limbs b1 b0 a1 a0 → borrow_cell b1 b0 a1 a0 ≡ bit_of (nat_lt (number a1 a0) (number b1 b0))
borrow-cell b1 b0 a1 a0 small =
    or-bits (nat_lt a1 b1) (last_borrow b1 b0 a1 a0) ∙ ap bit_of (differences b1 b0 a1 a0 small).borrow

-- an asserted zero
abbrev pub asserted : ℕ → Option Cause
asserted cell = or_else (unless (bit_of (cell == 0) == 1) causes.AssertFailed) None

asserted-bit : (test : Bool) → asserted (bit_of test) ≡ (if test then Some causes.AssertFailed else None)
asserted-bit true = refl
asserted-bit false = refl

pub borrow-asserted : (b1 b0 a1 a0 : ℕ) → Limbs b1 b0 a1 a0
    → asserted (borrow_cell b1 b0 a1 a0) ≡ (if nat_lt (number a1 a0) (number b1 b0) then Some causes.AssertFailed else None)
borrow-asserted b1 b0 a1 a0 small =
    ap asserted (borrow-cell b1 b0 a1 a0 small) ∙ asserted-bit (nat_lt (number a1 a0) (number b1 b0))

carry-cell : (carry total : ℕ) → carry ≡ total / 2 ^ 64
    → asserted carry ≡ (if not (is_u64 total) then Some causes.AssertFailed else None)
carry-cell carry total is =
    elim (cases_lt total (2 ^ 64)) [
      | inl less ↦ rw (lt-ltb total (2 ^ 64) less, eq-eqb carry 0 (omega arith)) refl
      | inr most ↦ rw (le-ltb total (2 ^ 64) most, ne_eqb carry 0 (λ none. omega arith)) refl
    ]

pub carry-asserted : (b1 b0 a1 a0 carry : ℕ) → carry ≡ (number a1 a0 + number b1 b0) / 2 ^ 64
    → asserted carry ≡ (if not (is_u64 (number a1 a0 + number b1 b0)) then Some causes.AssertFailed else None)
carry-asserted b1 b0 a1 a0 carry is = carry-cell carry (number a1 a0 + number b1 b0) is

bit-negated : (test : Bool) → or_else (unless (is_bit (bit_of test)) causes.NotBinary) None ≡ None
bit-negated true = refl
bit-negated false = refl

-- the borrow is a bit, so that it can be negated
pub borrow-negated : (b1 b0 a1 a0 : ℕ) → Limbs b1 b0 a1 a0
    → or_else (unless (is_bit (borrow_cell b1 b0 a1 a0)) causes.NotBinary) None ≡ None
borrow-negated b1 b0 a1 a0 small =
    ap (λ n. or_else (unless (is_bit n) causes.NotBinary) None) (borrow-cell b1 b0 a1 a0 small)
    ∙ bit-negated (nat_lt (number a1 a0) (number b1 b0))

both-ways : (b1 b0 a1 a0 : Bool) → (a1 && a0 && b1 && b0) ≡ (b1 && b0 && a1 && a0)
both-ways true true true true = refl
both-ways true true true false = refl
both-ways true true false true = refl
both-ways true true false false = refl
both-ways true false true true = refl
both-ways true false true false = refl
both-ways true false false true = refl
both-ways true false false false = refl
both-ways false true true true = refl
both-ways false true true false = refl
both-ways false true false true = refl
both-ways false true false false = refl
both-ways false false true true = refl
both-ways false false true false = refl
both-ways false false false true = refl
both-ways false false false false = refl

-- the limbs fit in either order of the numbers
pub exchanged-wide : (b1 b0 a1 a0 : ℕ) (own : Option Cause)
    → unless_wide (is_u32 a1 && is_u32 a0 && is_u32 b1 && is_u32 b0) own
    ≡ unless_wide (is_u32 b1 && is_u32 b0 && is_u32 a1 && is_u32 a0) own
exchanged-wide b1 b0 a1 a0 own =
    ap (λ (fit : Bool). unless_wide fit own) (both-ways (is_u32 b1) (is_u32 b0) (is_u32 a1) (is_u32 a0))

-- a procedure that does not trap has fitting limbs, and no result out of range
pub free-parts : (fit out : Bool) → unless_wide fit (if out then Some causes.AssertFailed else None) ≡ None
    → (fit ≡ true) × (out ≡ false)
free-parts true false e = (refl, refl)
free-parts true true e = cc
free-parts false out e = cc
