-- Which operations of a span the walk has to look at, and which bits a row with one of them cannot have.
use Rattle.sound_evidence.proofs.Words.{◌≡◌, ◌≢◌, ℕ, ◌+◌, ◌*◌, ◌<◌, Bool, true, false, not, eqb, List, Option, Some, None, unwrap_or, refl, sym, ◌∙◌, arith}
use Rattle.sound_evidence.proofs.Words.{lit<, Op, b, is_op, HasBits, taken_by, off, marked_of}
use Rattle.vm_ops.specs.Codes.{code_of, op_at}
use Rattle.vm_ops.specs.declared.op.Op.TheVariants as ops
use Rattle.vm_ops.proofs.CodeLemmas.{code_of-op_at}
use Rattle.air_kit.specs.Flags.{op_of, spelled}

pub marked_end : (op : Op) → is_op (marked_of op) ops.End ≡ is_op op ops.End
marked_end ops.End = refl
marked_end ops.Respan = refl
marked_end ops.AdvPop = refl
marked_end ops.AdvPopW = refl
marked_end op = refl

pub marked_respan : (op : Op) → is_op (marked_of op) ops.Respan ≡ is_op op ops.Respan
marked_respan ops.End = refl
marked_respan ops.Respan = refl
marked_respan ops.AdvPop = refl
marked_respan ops.AdvPopW = refl
marked_respan op = refl

pub marked_takes : (op : Op) (next : List ℕ) → taken_by (marked_of op) next ≡ taken_by op next
marked_takes ops.End next = refl
marked_takes ops.Respan next = refl
marked_takes ops.AdvPop next = refl
marked_takes ops.AdvPopW next = refl
marked_takes op next = refl

-- it has none of the four codes
Plain : ℕ → Type 0
Plain n = (n ≢ 28) × (n ≢ 65) × (n ≢ 76) × (n ≢ 78)

plain_op : (op : Op) → Plain (code_of op) → marked_of op ≡ ops.Noop
unfolding Plain
plain_op ops.AdvPopW plain = absurd (plain.0 refl)
plain_op ops.AdvPop plain = absurd (plain.1 refl)
plain_op ops.End plain = absurd (plain.2 refl)
plain_op ops.Respan plain = absurd (plain.3 refl)
plain_op op plain = refl

plain_row : (row : List ℕ) → Plain (spelled 7 (b row)) → marked_of (op_of row) ≡ ops.Noop
unfolding op_of
plain_row row plain = go (op_at (spelled 7 (b row))) refl
  where
    go : (found : Option Op) → op_at (spelled 7 (b row)) ≡ found → marked_of (unwrap_or found ops.Noop) ≡ ops.Noop
    go None e = refl
    go (Some op) e = plain_op op (rw (code_of-op_at (spelled 7 (b row)) op e) plain)

spelled_is : (row : List ℕ) → spelled 7 (b row) ≡ b row 0 + 2 * b row 1 + 4 * b row 2 + 8 * b row 3 + 16 * b row 4 + 32 * b row 5 + 64 * b row 6
unfolding spelled
spelled_is row = omega arith

-- the bits of 16 and of 64 are the same
same_number : (a b c d e f g : ℕ) → a < 2 → b < 2 → c < 2 → d < 2 → e < 2 → f < 2 → e ≡ g
    → Plain (a + 2 * b + 4 * c + 8 * d + 16 * e + 32 * f + 64 * g)
unfolding Plain
same_number a b c d e f g la lb lc ld le lf same = (
  λ is. omega (arith, is, same, la, lb, lc, ld, le, lf),
  λ is. omega (arith, is, same, la, lb, lc, ld, le, lf),
  λ is. omega (arith, is, same, la, lb, lc, ld, le, lf),
  λ is. omega (arith, is, same, la, lb, lc, ld, le, lf),
)

-- the bits of 4 and of 8 differ
apart_number : (a b c d e f g : ℕ) → a < 2 → b < 2 → c < 2 → d < 2 → c ≢ d → Plain (a + 2 * b + 4 * c + 8 * d + 16 * e + 32 * f + 64 * g)
unfolding Plain
apart_number a b c d e f g la lb lc ld apart = (
  λ is. omega (arith, is, apart, la, lb, lc, ld),
  λ is. omega (arith, is, apart, la, lb, lc, ld),
  λ is. omega (arith, is, apart, la, lb, lc, ld),
  λ is. omega (arith, is, apart, la, lb, lc, ld),
)

same_by : (x y m n : ℕ) (answer : Bool) → x ≡ m → y ≡ n → answer ≡ eqb x y → answer ≡ true → m ≡ n
same_by x y m n answer is_x is_y tested holds = grind arith

pub same_bits : (row : List ℕ) (x y : ℕ) (answer : Bool) → HasBits row → x ≡ b row 4 → y ≡ b row 6 → answer ≡ eqb x y → answer ≡ true
    → ops.Noop ≡ marked_of (op_of row)
same_bits row x y answer bits is_x is_y tested holds =
    sym (plain_row row (rw (spelled_is row) (same_number (b row 0) (b row 1) (b row 2) (b row 3) (b row 4) (b row 5) (b row 6)
    (bits 0 (lit< tt)) (bits 1 (lit< tt)) (bits 2 (lit< tt)) (bits 3 (lit< tt)) (bits 4 (lit< tt)) (bits 5 (lit< tt))
    (same_by x y (b row 4) (b row 6) answer is_x is_y tested holds))))

apart_by : (x y : ℕ) → eqb x y ≡ false → x ≢ y
apart_by x y differ = grind arith

apart : (x y : ℕ) (same : Bool) → eqb x y ≡ same → not same ≡ true → x ≢ y
apart x y true is differ = off differ
apart x y false is differ = apart_by x y is

pub apart_bits : (row : List ℕ) (x y : ℕ) (answer : Bool) → HasBits row → x ≡ b row 2 → y ≡ b row 3 → answer ≡ not (eqb x y) → answer ≡ true
    → ops.Noop ≡ marked_of (op_of row)
apart_bits row x y answer bits is_x is_y tested holds =
    sym (plain_row row (rw (spelled_is row) (apart_number (b row 0) (b row 1) (b row 2) (b row 3) (b row 4) (b row 5) (b row 6)
    (bits 0 (lit< tt)) (bits 1 (lit< tt)) (bits 2 (lit< tt)) (bits 3 (lit< tt))
    (λ same. apart x y (eqb x y) refl (sym tested ∙ holds) (is_x ∙ same ∙ sym is_y)))))
