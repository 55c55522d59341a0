-- The four flags of an END, from the kind of the block that its tuple names.
use Rattle.sound_buses.proofs.Words.{◌≡◌, ℕ, zero, suc, ◌+◌, ◌*◌, ◌<◌, ◌≤◌, true, ◌||◌, ◌==◌, List, refl, sym, ◌∙◌, arith, felt_add, felt_mul, is_start_op, Op}
use Rattle.sound_buses.proofs.Words.{h, s, is_op, is_call_op, kind_of_end, kind_of_start, ShowsKind, off}
use Rattle.sound_buses.proofs.Words.ops
use Rattle.facts_main.specs.Blocks.{IsEndRow}

-- flags of which at most one is set
pub record AreFlags (a b c d kind : ℕ) : Type 0 where
  pub most : a + b + c + d ≤ 1
  pub kind_is : a + 2 * b + 3 * c + 4 * d ≡ kind

kind_sum : (a b c d : ℕ) → a + b + c + d ≤ 1
    → felt_add (felt_add (felt_add a (felt_mul 2 b)) (felt_mul 3 c)) (felt_mul 4 d) ≡ a + 2 * b + 3 * c + 4 * d
kind_sum a b c d most = omega arith

pub flags_of_end : (y : List ℕ) {kind : ℕ} → IsEndRow y → kind ≡ kind_of_end y → AreFlags (h y 4) (h y 5) (h y 6) (h y 7) kind
flags_of_end y row e = record { most = row.most; kind_is = sym (kind_sum (h y 4) (h y 5) (h y 6) (h y 7) row.most) ∙ sym e }

-- each kind has its flag
loop_shown : (top : ℕ) (y : List ℕ) → top < 2 → AreFlags (h y 4) (h y 5) (h y 6) (h y 7) top → ShowsKind ops.Loop top y
loop_shown zero y low f = omega (arith, f)
loop_shown (suc zero) y low f = omega (arith, f)
loop_shown (suc (suc n)) y low f = absurd (omega arith)

pub kind_shown : (op : Op) (x y : List ℕ) → is_start_op op ≡ true → (is_op op ops.Split || is_op op ops.Loop ≡ true → s x 0 < 2)
    → AreFlags (h y 4) (h y 5) (h y 6) (h y 7) (kind_of_start op x) → ShowsKind op (s x 0) y
kind_shown ops.Join x y is bit f = omega (arith, f)
kind_shown ops.Split x y is bit f = omega (arith, f)
kind_shown ops.Loop x y is bit f = loop_shown (s x 0) y (bit refl) f
kind_shown ops.Span x y is bit f = omega (arith, f)
kind_shown ops.Call x y is bit f = omega (arith, f)
kind_shown ops.Syscall x y is bit f = omega (arith, f)
kind_shown ops.Dyn x y is bit f = omega (arith, f)
kind_shown op x y is bit f = off is

-- the END of a call has one of the last two flags
pub call_flagged : (op : Op) {top : ℕ} {y : List ℕ} → is_call_op op ≡ true → ShowsKind op top y → (felt_add (h y 6) (h y 7) == 1) ≡ true
call_flagged ops.Call is k = rw (k.call, k.syscall) refl
call_flagged ops.Syscall is k = rw (k.call, k.syscall) refl
call_flagged op is k = off is
