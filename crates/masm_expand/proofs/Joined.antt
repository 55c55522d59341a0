-- Lists of operations that a loop or several calls put together.
use Rattle.std.proofs.Common.{◌≡◌, ℕ, zero, suc, ◌+◌, ◌-◌, ◌/◌, ◌^◌, ◌<◌, List, [], ◌∷◌, ◌++◌, replicate, sym, ◌∙◌, append_assoc, arith}
use Rattle.std.specs.List.{flat_map}
use Rattle.std.proofs.lemmas.List.{map-append, append-nil}
use Rattle.vm_ops.specs.declared.op.Op.{Op}
use Rattle.vm_ops.specs.declared.op.Op.TheVariants as ops
use Rattle.vm_ops.specs.declared.item.Item.{Item}
use Rattle.vm_ops.specs.Items.{plain_item, push_item}
use Rattle.masm_expand.specs.Expansion.{plain, exp_digit, exp_digits, pow2, pow2_step}

-- one time more
pub more_times : (items new total : List Item) (op : Op) (x : Item) (n k : ℕ) → k < n → x ≡ plain_item op → new ≡ items ++ x ∷ []
    → items ++ plain (replicate (n - k) op) ≡ total → new ++ plain (replicate (n - (k + 1)) op) ≡ total
more_times items new total op x n k more is_op added whole =
    let count : n - k ≡ suc (n - (k + 1)) = omega arith in
    rw (added, is_op, append_assoc) (rw count at whole)

-- one digit more
pub more_digits : (items new total : List Item) (e place : ℕ) → 0 < place
    → new ≡ items ++ plain (exp_digit (e / 2 ^ (place - 1)))
    → items ++ plain (exp_digits place e) ≡ total → new ++ plain (exp_digits (place - 1) e) ≡ total
unfolding exp_digits
more_digits items new total e zero some added whole = absurd (omega arith)
more_digits items new total e (suc k) some added whole =
    let same : suc k - 1 ≡ k = omega arith in
    rw (added, append_assoc, same) (rw map-append at whole)

-- no digit more
pub no_digits : (items total : List Item) (e place : ℕ) → place ≡ 0
    → items ++ plain (exp_digits place e) ≡ total → items ≡ total
unfolding exp_digits
no_digits items total e place none whole = sym (append-nil items) ∙ (rw none at whole)

-- the parts of pow2
pub pow2_joined : (old one two three four : List Item) → one ≡ old ++ push_item 1 ∷ [] → two ≡ one ++ plain (ops.Swap ∷ [])
    → three ≡ two ++ flat_map pow2_step (1 ∷ 3 ∷ 15 ∷ 255 ∷ 65535 ∷ 4294967295 ∷ [])
    → four ≡ three ++ plain (ops.Eqz ∷ ops.Assert ∷ []) → four ≡ old ++ pow2
unfolding pow2
pow2_joined old one two three four a b c d = rw (d, c, b, a) (simp append_assoc)
