-- What decoding a row finds, and sums over the operations from a code on.
use Rattle.std.proofs.Common.{◌≡◌, ℕ, zero, suc, ◌+◌, ◌*◌, ◌<◌, ◌↔◌, ◌&&◌, cond, nat_lt, Bool, true, IsTrue, List, [], ◌∷◌, drop, Option, Some, None, IfSome, refl, ap, sym, subst, ◌∙◌, arith, lit<}
use Rattle.std.proofs.lemmas.Bool.{and_parts, lt-ltb, ltb-true}
use Rattle.std.specs.List.{slice_get}
use Rattle.vm_field.specs.Field.{felt_add}
use Rattle.vm_ops.specs.declared.op.Op.{Op}
use Rattle.vm_ops.specs.Codes.{every_op, op_at}
use Rattle.vm_ops.proofs.CodeLemmas.{code_of-op_at, op_at-code_of, op_at-outside}
use Rattle.vm_table.specs.MainColumns.{b}
use Rattle.air_kit.specs.Flags.{flag, sum_of, flags_of, spelled, HasBits}
use Rattle.air_kit.specs.Decoding.{IsDecoded, are_bits}
use Rattle.air_kit.proofs.FlagLemmas.{has_op-from, flags_of-hot, at_op}

all-seven : (a b c d e f g : Bool) → (a && b && c && d && e && f && g) ≡ true
    → (a ≡ true) × (b ≡ true) × (c ≡ true) × (d ≡ true) × (e ≡ true) × (f ≡ true) × (g ≡ true)
all-seven a b c d e f g h =
    let six = and_parts (a && b && c && d && e && f) g h in
    let five = and_parts (a && b && c && d && e) f six.0 in
    let four = and_parts (a && b && c && d) e five.0 in
    let three = and_parts (a && b && c) d four.0 in
    let two = and_parts (a && b) c three.0 in
    let one = and_parts a b two.0 in
    (one.0, one.1, two.1, three.1, four.1, five.1, six.1)

-- seven numbers that are a row's bits
pub spelled_by : (row : List ℕ) (n0 n1 n2 n3 n4 n5 n6 : ℕ) → n0 ≡ b row 0 → n1 ≡ b row 1 → n2 ≡ b row 2 → n3 ≡ b row 3
    → n4 ≡ b row 4 → n5 ≡ b row 5 → n6 ≡ b row 6
    → n0 + 2 * n1 + 4 * n2 + 8 * n3 + 16 * n4 + 32 * n5 + 64 * n6 ≡ spelled 7 (b row)
unfolding spelled
spelled_by row n0 n1 n2 n3 n4 n5 n6 e0 e1 e2 e3 e4 e5 e6 = omega (arith, e0, e1, e2, e3, e4, e5, e6)

-- the test of the bits tells whether they are bits
pub bits_tested : (row : List ℕ) → IsTrue (are_bits row) ↔ HasBits row
bits_tested row = (shown, passed)
  where
    shown : are_bits row ≡ true → HasBits row
    shown h j low = ltb-true (b row j) 2 (each j low)
      where
        all : (nat_lt (b row 0) 2 ≡ true) × (nat_lt (b row 1) 2 ≡ true) × (nat_lt (b row 2) 2 ≡ true) × (nat_lt (b row 3) 2 ≡ true)
            × (nat_lt (b row 4) 2 ≡ true) × (nat_lt (b row 5) 2 ≡ true) × (nat_lt (b row 6) 2 ≡ true)
        all =
            all-seven (nat_lt (b row 0) 2) (nat_lt (b row 1) 2) (nat_lt (b row 2) 2) (nat_lt (b row 3) 2) (nat_lt (b row 4) 2)
            (nat_lt (b row 5) 2) (nat_lt (b row 6) 2) h

        each : (j : ℕ) → j < 7 → nat_lt (b row j) 2 ≡ true
        each zero h = all.0
        each (suc zero) h = all.1
        each (suc (suc zero)) h = all.2
        each (suc (suc (suc zero))) h = all.3
        each (suc (suc (suc (suc zero)))) h = all.4
        each (suc (suc (suc (suc (suc zero))))) h = all.5
        each (suc (suc (suc (suc (suc (suc zero)))))) h = all.6
        each (suc (suc (suc (suc (suc (suc (suc j))))))) h = absurd (omega (arith, h))

    passed : HasBits row → are_bits row ≡ true
    passed bits =
        rw (bit 0 (lit< tt), bit 1 (lit< tt), bit 2 (lit< tt), bit 3 (lit< tt), bit 4 (lit< tt), bit 5 (lit< tt), bit 6 (lit< tt)) refl
      where
        bit : (j : ℕ) → j < 7 → nat_lt (b row j) 2 ≡ true
        bit j low = lt-ltb (b row j) 2 (bits j low)

-- the operation of a spelled code
pub decoded_at : (row : List ℕ) (code : ℕ) → HasBits row → code ≡ spelled 7 (b row) → IsDecoded row (op_at code)
decoded_at row code bits spells op =
    (λ e. has_op-from row op bits (code_of-op_at code op e ∙ spells), λ has. ap op_at (spells ∙ sym has.spells) ∙ op_at-code_of op)

-- none, where a bit is none
pub none_decoded : (row : List ℕ) → (HasBits row → ⊥) → IsDecoded row None
none_decoded row none op = (λ e. absurd (cc), λ has. absurd (none has.bits))

-- a sum of flags of a decoded row
pub sum_decoded : (row : List ℕ) (found : Option Op) (own : Op) (test : Op → Bool) → IsDecoded row found → found ≡ Some own
    → flags_of test (flag row) ≡ cond (test own) 1 0
sum_decoded row found own test decoded is = at_op ((decoded own).0 is) (flags_of test) ∙ flags_of-hot own test

-- the operations from a code on are that of the code and those behind it
from_code : (ops : List Op) (i : ℕ) (op : Op) → slice_get ops i ≡ Some op → drop i ops ≡ op ∷ drop (suc i) ops
from_code [] i op e = absurd (cc)
from_code (o ∷ ops) zero op e = let same : o ≡ op = cc in ap (λ x. x ∷ ops) same
from_code (o ∷ ops) (suc i) op e = from_code ops i op e

pub no_code : drop 81 every_op ≡ []
unfolding every_op
no_code = refl

-- one more term of a sum over the operations from a code on
pub sum_step : (value : Op → ℕ) (code next term rest : ℕ) → next ≡ suc code → code < 81
    → IfSome (op_at code) (λ op. term ≡ value op) → rest ≡ sum_of (drop next every_op) value
    → felt_add term rest ≡ sum_of (drop code every_op) value
unfolding sum_of op_at
sum_step value code next term rest step low is later = go (slice_get every_op code) refl is
  where
    go : (found : Option Op) → slice_get every_op code ≡ found → IfSome found (λ op. term ≡ value op)
        → felt_add term rest ≡ sum_of (drop code every_op) value
    go None e h = absurd (let out = (op_at-outside code).0 e in omega (arith, out, low))
    go (Some op) e h =
        let split : drop code every_op ≡ op ∷ drop (suc code) every_op = from_code every_op code op e in
        let rest_is : rest ≡ sum_of (drop (suc code) every_op) value = subst (λ n. rest ≡ sum_of (drop n every_op) value) step later in
        rw (split, h, rest_is) refl
