-- Where a row's seven bits are bits, the flag of an operation is 1 if they spell its code, else 0. Each sum over flags is then
-- the term of one operation.
use Rattle.std.proofs.Common.{◌≡◌, ◌≢◌, ℕ, zero, suc, ◌+◌, ◌*◌, ◌/◌, ◌%◌, ◌^◌, ◌<◌, ◌≤◌, Bool, true, false, ◌&&◌, cond, eqb, List, [], ◌∷◌, length, Option, Some, None, unwrap_or, refl, sym, ap, subst, ◌∙◌, inl, inr, arith, lit<, zero-mul}
use Rattle.std.proofs.Math.Nat.{pow-succ'}
use Rattle.std.proofs.lemmas.Bool.{cases_Bool, eqb-true, and_parts}
use Rattle.std.proofs.lemmas.Bool.Decides.{nat_tests}
use mathlib.Core.Path.{fun_ext}
use Rattle.vm_field.specs.Field.{prime, felt_sub, felt_mul}
use Rattle.vm_ops.specs.declared.op.Op.{Op}
use Rattle.vm_ops.specs.declared.op.Op.TheVariants.{Noop}
use Rattle.vm_ops.specs.Codes.{code_of, every_op, op_at}
use Rattle.vm_ops.proofs.CodeLemmas.{code_of-below, code_of-different, code_of-op_at, op_at-code_of}
use Rattle.vm_table.specs.MainColumns.{b}
use Rattle.air_kit.specs.Flags.{factor, flag_by, flag, Flags, sum_of, sum_over, flags_of, spelled, op_of, one_hot, HasOp}

-- a digit that is the bit leaves the rest of the product, another one makes it 0
factor_of : (digit bit rest : ℕ) → digit < 2 → bit < 2 → rest < 2 → felt_mul (factor digit bit) rest ≡ cond (eqb digit bit) rest 0
factor_of zero zero rest d b r = omega arith
factor_of zero (suc zero) rest d b r = omega arith
factor_of (suc zero) zero rest d b r = omega arith
factor_of (suc zero) (suc zero) rest d b r = omega arith
factor_of zero (suc (suc bit)) rest d b r = absurd (omega arith)
factor_of (suc zero) (suc (suc bit)) rest d b r = absurd (omega arith)
factor_of (suc (suc digit)) bit rest d b r = absurd (omega arith)

bit_below : (t : Bool) → cond t 1 0 < 2
bit_below true = lit< tt
bit_below false = lit< tt

-- two numbers are the same where their digits and their halves are
joined : (q r bit high code c : ℕ) → q < 2 → bit < 2 → code ≡ q + 2 * r → c ≡ bit + 2 * high
    → ◌≡◌ {A = ℕ} (cond (eqb q bit) (cond (eqb r high) 1 0) 0) (cond (eqb code c) 1 0)
joined q r bit high code c hq hb e f = grind (arith, nat_tests)

-- the product over bits, for a code that they have room for
pub flag_by-bits : (n code : ℕ) (bit : ℕ → ℕ) → ((j : ℕ) → j < n → bit j < 2) → code < 2 ^ n
    → flag_by n code bit ≡ cond (eqb code (spelled n bit)) 1 0
unfolding spelled flag_by
flag_by-bits zero zero bit low below = refl
flag_by-bits zero (suc code) bit low below = absurd (omega arith)
flag_by-bits (suc n) code bit low below =
    let half : code / 2 < 2 ^ n = let e : 2 ^ suc n ≡ 2 * 2 ^ n = pow-succ' 2 n in omega (arith, e) in
    let q : code % 2 < 2 = omega arith in
    let whole : code ≡ code % 2 + 2 * (code / 2) = omega arith in
    let later : (j : ℕ) → j < n → bit (suc j) < 2 = λ j h. low (suc j) (omega arith) in
    ap (felt_mul (factor (code % 2) (bit 0))) (flag_by-bits n (code / 2) (λ j. bit (suc j)) later half)
    ∙ factor_of (code % 2) (bit 0) (cond (eqb (code / 2) (spelled n (λ j. bit (suc j)))) 1 0) q (low 0 (omega arith))
    (bit_below (eqb (code / 2) (spelled n (λ j. bit (suc j)))))
    ∙ joined (code % 2) (code / 2) (bit 0) (spelled n (λ j. bit (suc j))) code (bit 0 + 2 * spelled n (λ j. bit (suc j))) q
    (low 0 (omega arith)) whole refl

-- each flag of a row whose bits spell an operation's code
pub flag-hot : (row : List ℕ) (op : Op) → ((j : ℕ) → j < 7 → b row j < 2) → code_of op ≡ spelled 7 (b row) → (other : Op)
    → flag row other ≡ one_hot op other
unfolding flag
flag-hot row op low is other =
    flag_by-bits 7 (code_of other) (b row) low (let h = code_of-below other in omega (arith, h))
    ∙ ap (λ c. cond (eqb (code_of other) c) 1 0) (sym is)

-- a row has an operation
pub has_op-from : (row : List ℕ) (op : Op) → ((j : ℕ) → j < 7 → b row j < 2) → code_of op ≡ spelled 7 (b row) → HasOp row op
has_op-from row op low is = record { bits = low; spells = is; flags = flag-hot row op low is }

-- which it is
pub has_op-op_of : (row : List ℕ) (op : Op) → HasOp row op → op_of row ≡ op
unfolding op_of
has_op-op_of row op h = ap (λ o. unwrap_or o Noop) (ap op_at (sym h.spells) ∙ op_at-code_of op)

-- Sums over all operations.

-- the codes of a list count up from n
abbrev numbered : List Op → ℕ → Bool
numbered [] n = true
numbered (op ∷ ops) n = eqb (code_of op) n && numbered ops (suc n)

every_numbered : numbered every_op 0 ≡ true
unfolding every_op
every_numbered = refl

every_length : length every_op ≡ 81
unfolding every_op
every_length = refl

-- a sum without the operation
sum_of-none : (ops : List Op) (n : ℕ) (op : Op) (value : Op → ℕ) → numbered ops n ≡ true → code_of op < n
    → ((o : Op) → code_of o ≢ code_of op → value o ≡ 0) → sum_of ops value ≡ 0
unfolding sum_of
sum_of-none [] n op value count low others = refl
sum_of-none (o ∷ ops) n op value count low others =
    let parts = and_parts (eqb (code_of o) n) (numbered ops (suc n)) count in
    let code : code_of o ≡ n = eqb-true (code_of o) n parts.0 in
    let here : value o ≡ 0 = others o (omega (arith, code)) in
    let later : sum_of ops value ≡ 0 = sum_of-none ops (suc n) op value parts.1 (omega arith) others in
    rw (here, later) refl

-- a sum in which one operation alone counts
pub sum_of-one : (ops : List Op) (n : ℕ) (op : Op) (value : Op → ℕ) → numbered ops n ≡ true → n ≤ code_of op
    → code_of op < n + length ops → ((o : Op) → code_of o ≢ code_of op → value o ≡ 0) → sum_of ops value ≡ value op % prime
unfolding sum_of
sum_of-one [] n op value count low high others = absurd (omega arith)
sum_of-one (o ∷ ops) n op value count low high others =
    let parts = and_parts (eqb (code_of o) n) (numbered ops (suc n)) count in
    let code : code_of o ≡ n = eqb-true (code_of o) n parts.0 in
    elim (cases_Bool (eqb (code_of o) (code_of op))) [
      | inl same ↦
          let e : code_of o ≡ code_of op = eqb-true (code_of o) (code_of op) same in
          let is : o ≡ op = code_of-different o op e in
          let later : sum_of ops value ≡ 0 = sum_of-none ops (suc n) op value parts.1 (omega (arith, code, e)) others in
          rw (later, is) (omega arith)
      | inr apart ↦
          let e : code_of o ≢ code_of op = λ same. (let t : eqb (code_of o) (code_of op) ≡ true = grind (arith, nat_tests, same) in cc) in
          let here : value o ≡ 0 = others o e in
          let later : sum_of ops value ≡ value op % prime = sum_of-one ops (suc n) op value parts.1 (omega (arith, code, e)) (omega arith) others in
          rw (here, later) (omega arith)
    ]

pub sum_of-every : (op : Op) (value : Op → ℕ) → ((o : Op) → code_of o ≢ code_of op → value o ≡ 0) → sum_of every_op value ≡ value op % prime
sum_of-every op value others =
    let below = code_of-below op in
    sum_of-one every_op 0 op value every_numbered (omega arith) (omega (arith, below, every_length)) others

apart_hot : (op o : Op) → code_of o ≢ code_of op → eqb (code_of o) (code_of op) ≡ false
apart_hot op o apart =
    elim (cases_Bool (eqb (code_of o) (code_of op))) [
      | inl same ↦ absurd (apart (eqb-true (code_of o) (code_of op) same))
      | inr other ↦ other
    ]

-- the flag of another operation than the row's
pub flag_apart : (row : List ℕ) (op other : Op) → HasOp row op → code_of other ≢ code_of op → flag row other ≡ 0
flag_apart row op other has apart = has.flags other ∙ rw (apart_hot op other apart) refl

same_hot : (op : Op) → eqb (code_of op) (code_of op) ≡ true
same_hot op = grind (arith, nat_tests)

either_zero : (t : Bool) → ◌≡◌ {A = ℕ} (cond t 0 0) 0
either_zero true = refl
either_zero false = refl

either_bit : (t : Bool) → ◌≡◌ {A = ℕ} (cond t 1 0 % prime) (cond t 1 0)
either_bit true = refl
either_bit false = refl

-- a set's flags
pub flags_of-hot : (op : Op) (test : Op → Bool) → flags_of test (one_hot op) ≡ cond (test op) 1 0
unfolding flags_of
flags_of-hot op test =
    sum_of-every op (λ o. cond (test o) (one_hot op o) 0) (λ o apart. rw (apart_hot op o apart) (either_zero (test o)))
    ∙ rw (same_hot op) (either_bit (test op))

-- the sum of flags times values
pub sum_over-hot : (op : Op) (value : Op → ℕ) → sum_over (one_hot op) value ≡ value op % prime
unfolding sum_over
sum_over-hot op value =
    sum_of-every op (λ o. felt_mul (one_hot op o) (value o)) (λ o apart. rw (apart_hot op o apart) (ap (λ n. n % prime) (zero-mul (value o))))
    ∙ rw (same_hot op) (omega arith)

-- the sum of all flags
pub sum_of-hot : (op : Op) → sum_of every_op (one_hot op) ≡ 1
sum_of-hot op =
    sum_of-every op (one_hot op) (λ o apart. rw (apart_hot op o apart) refl) ∙ rw (same_hot op) refl

-- an entry of a row that has the operation
pub at_op : {A : Type 0} {row : List ℕ} {op : Op} → HasOp row op → (value : Flags → A) → value (flag row) ≡ value (one_hot op)
at_op h value = ap value (fun_ext h.flags)

no_flag : (row : List ℕ) (o : Op) → ((j : ℕ) → j < 7 → b row j < 2) → (code_of o ≡ spelled 7 (b row) → ⊥) → flag row o ≡ 0
unfolding flag
no_flag row o low none =
    flag_by-bits 7 (code_of o) (b row) low (let h = code_of-below o in omega (arith, h))
    ∙ elim (cases_Bool (eqb (code_of o) (spelled 7 (b row)))) [
      | inl same ↦ absurd (none (eqb-true (code_of o) (spelled 7 (b row)) same))
      | inr apart ↦ rw apart refl
    ]

all_none : (ops : List Op) (value : Op → ℕ) → ((o : Op) → value o ≡ 0) → sum_of ops value ≡ 0
unfolding sum_of
all_none [] value none = refl
all_none (o ∷ ops) value none = rw (none o, all_none ops value none) refl

-- A row whose bits are bits, and whose flags sum up to 1, has an operation.
pub has_op : (row : List ℕ) → ((j : ℕ) → j < 7 → b row j < 2) → felt_sub 1 (sum_of every_op (flag row)) ≡ 0 → HasOp row (op_of row)
has_op row low one = go (op_at (spelled 7 (b row))) refl
  where
    nothing : ((o : Op) → flag row o ≡ 0) → HasOp row (op_of row)
    nothing none = let z : sum_of every_op (flag row) ≡ 0 = all_none every_op (flag row) none in absurd (omega (arith, z, one))

    go : (found : Option Op) → op_at (spelled 7 (b row)) ≡ found → HasOp row (op_of row)
    go None e = nothing (λ o. no_flag row o low (λ is. (let h : op_at (code_of o) ≡ None = ap op_at is ∙ e in let k = op_at-code_of o in cc)))
    go (Some op) e =
        let code : code_of op ≡ spelled 7 (b row) = code_of-op_at (spelled 7 (b row)) op e in
        let h = has_op-from row op low code in subst (HasOp row) (sym (has_op-op_of row op h)) h
