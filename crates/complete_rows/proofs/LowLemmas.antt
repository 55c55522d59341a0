-- The cells of a row are elements where its parts are.
use Rattle.complete_rows.proofs.Words
use Words.{◌≡◌, ◌⊎◌, inl, inr, ℕ, zero, suc, ◌+◌, ◌*◌, ◌/◌, ◌%◌, ◌^◌, ◌<◌, Bool, true, false, ◌==◌, cond, slice_index, arith, lit<, All-from_recursion, prime}
use Words.{AreElements, felt_inv, ◌⊟◌, elements-index, code_of, is_ordinary_op, Op, code_of-below, bit_of, b, ReadsAs, Line, code_bit, laid_out}
use Rattle.std.proofs.lemmas.Bool.{cases_Bool}
use Rattle.vm_field.specs.Field.{felt_mul, one_below}
use Rattle.air_kit.specs.Flags.{HasOp, spelled}
use Rattle.air_kit.proofs.FlagLemmas.{has_op-from}
use Rattle.complete_rows.proofs.ColumnLemmas.{col_b, col_sp}

-- facts of a list's elements, one after another
infixr 40 ◌▸◌
pub ◌▸◌ : {P Q : Type 0} → P → Q → P × Q
first ▸ others = (first, others)

pub record IsLowLine (l : Line) : Type 0 where
  pub clock : l.seen.clock < prime
  pub fmp : l.seen.fmp < prime
  pub context : l.seen.context < prime
  pub digest : AreElements l.seen.digest
  pub address : l.address < prime
  pub hash : AreElements l.hash
  pub left : l.left < prime
  pub place : l.place < prime
  pub cells : AreElements l.seen.cells
  pub depth : l.seen.depth < prime
  pub key : l.key < prime
  pub ha : l.ha < prime
  pub nesting : l.seen.nesting < prime
  pub witnesses : AreElements l.witnesses
  pub limbs : AreElements l.limbs

bit_low : (bit : Bool) → bit_of bit < prime
bit_low true = lit< tt
bit_low false = lit< tt

halved : (n : ℕ) → n % 2 < prime
halved n = omega arith

code_low : (op : Op) (j : ℕ) → code_bit op j < prime
code_low op j = halved (code_of op / 2 ^ j)

pub sub_low : (a b : ℕ) → a ⊟ b < prime
sub_low a b = omega arith

one_low : (test : ℕ → Bool) (n : ℕ) → 0 < n → one_below test n < n
unfolding one_below
one_low test zero h = absurd (omega (arith, h))
one_low test (suc n) h = go n (one_low test n) (cases_Bool (test n))
  where
    go : (m : ℕ) → (0 < m → one_below test m < m) → (test m ≡ true) ⊎ (test m ≡ false) → cond (test m) m (one_below test m) < suc m
    go m before (inl is) = rw is (omega arith)
    go zero before (inr other) = rw other (omega arith)
    go (suc m) before (inr other) = rw other (let low = before (omega arith) in omega (arith, low))

pub inverse_low : (a : ℕ) → a < prime → felt_inv a < prime
unfolding felt_inv
inverse_low a h = one_low (λ b. felt_mul a b == 1) prime (lit< tt)

pub low_row : (l : Line) → IsLowLine l → AreElements (laid_out l)
unfolding laid_out
low_row l h =
    let digest : (j : ℕ) → slice_index l.seen.digest j < prime = λ j. elements-index l.seen.digest j h.digest in
    let hash : (j : ℕ) → slice_index l.hash j < prime = λ j. elements-index l.hash j h.hash in
    let cells : (j : ℕ) → slice_index l.seen.cells j < prime = λ j. elements-index l.seen.cells j h.cells in
    let witnesses : (j : ℕ) → slice_index l.witnesses j < prime = λ j. elements-index l.witnesses j h.witnesses in
    let limbs : (j : ℕ) → slice_index l.limbs j < prime = λ j. elements-index l.limbs j h.limbs in
    All-from_recursion (λ e. e < prime) (laid_out l)
    (h.clock ▸ h.fmp ▸ h.context ▸ bit_low l.seen.in_syscall ▸ digest 0 ▸ digest 1 ▸ digest 2 ▸ digest 3 ▸ h.address
    ▸ code_low l.op 0 ▸ code_low l.op 1 ▸ code_low l.op 2 ▸ code_low l.op 3 ▸ code_low l.op 4 ▸ code_low l.op 5
    ▸ code_low l.op 6 ▸ hash 0 ▸ hash 1 ▸ hash 2 ▸ hash 3 ▸ hash 4 ▸ hash 5 ▸ hash 6 ▸ hash 7 ▸ bit_low (is_ordinary_op l.op)
    ▸ h.left ▸ h.place ▸ bit_low (l.in_use == 8) ▸ bit_low (l.in_use == 4) ▸ bit_low (l.in_use == 2) ▸ cells 0 ▸ cells 1
    ▸ cells 2 ▸ cells 3 ▸ cells 4 ▸ cells 5 ▸ cells 6 ▸ cells 7 ▸ cells 8 ▸ cells 9 ▸ cells 10 ▸ cells 11 ▸ cells 12 ▸ cells 13
    ▸ cells 14 ▸ cells 15 ▸ h.depth ▸ h.key ▸ inverse_low (l.seen.depth ⊟ 16) (sub_low l.seen.depth 16) ▸ h.ha ▸ h.nesting
    ▸ witnesses 0 ▸ witnesses 1 ▸ witnesses 2 ▸ witnesses 3 ▸ limbs 0 ▸ limbs 1 ▸ limbs 2 ▸ limbs 3 ▸ limbs 4 ▸ limbs 5
    ▸ limbs 6 ▸ limbs 7 ▸ limbs 8 ▸ limbs 9 ▸ tt)

-- ---- the operation

digits : (n : ℕ) → n < 128
    → n ≡ n / 2 ^ 0 % 2 + 2 * (n / 2 ^ 1 % 2 + 2 * (n / 2 ^ 2 % 2 + 2 * (n / 2 ^ 3 % 2 + 2 * (n / 2 ^ 4 % 2
    + 2 * (n / 2 ^ 5 % 2 + 2 * (n / 2 ^ 6 % 2 + 2 * 0))))))
digits n h = omega (arith, h)

pub bits_spell : (bit : ℕ → ℕ) (n : ℕ) → n < 128 → ((j : ℕ) → j < 7 → bit j ≡ n / 2 ^ j % 2) → n ≡ spelled 7 bit
unfolding spelled
bits_spell bit n low is =
    rw (is 0 (lit< tt), is 1 (lit< tt), is 2 (lit< tt), is 3 (lit< tt), is 4 (lit< tt), is 5 (lit< tt), is 6 (lit< tt)) (digits n low)

two_digits : (n : ℕ) → n % 2 < 2
two_digits n = omega arith

pub line_has_op : (l : Line) → HasOp (laid_out l) l.op
line_has_op l =
    has_op-from (laid_out l) l.op (λ j h. rw (col_b l j h) (two_digits (code_of l.op / 2 ^ j)))
    (bits_spell (b (laid_out l)) (code_of l.op) (let few = code_of-below l.op in omega (arith, few)) (col_b l))

pub line_reads : (l : Line) → IsLowLine l → ReadsAs l.op (laid_out l)
line_reads l h = record {
  low = λ k. elements-index (laid_out l) k (low_row l h);
  has = line_has_op l;
  span = col_sp l;
}
