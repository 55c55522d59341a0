-- Placing into the slice of the free positions: a new group and what stands behind it, and the bounds of a group's number.
use Rattle.std.proofs.Common.{◌≡◌, ℕ, zero, suc, ◌+◌, ◌-◌, ◌*◌, ◌^◌, ◌<◌, ◌≤◌, Bool, true, false, ◌&&◌, List, [], ◌∷◌, ◌++◌, length, replicate, slice_set, refl, ap, ap₂, ◌∙◌, arith, nat_lt, if◌then◌else◌, lit<, append-nil}
use Rattle.std.proofs.lemmas.Bool.{ltb-true, lt-ltb}
use Rattle.std.proofs.Math.ListN.{drop_of_length-le}
use Rattle.std.proofs.Math.Nat.{pow-succ', pow-le-pow_right}
use borrow.Rule.Slice.PartMut.{put_mid}
use Rattle.op_pack.proofs.PackLemmas.{placed-fits}
use Rattle.op_pack.specs.Packing.{Placed, has_immediate, positions_of, fits, opens, new_group, placed, zeros_behind}
use Rattle.vm_ops.specs.declared.item.Item.{Item}

-- a digit in front of a number
pub below_next : (room code number : ℕ) → 0 < room → code < 81 → number < 128 ^ (room - 1) → code + 128 * number < 128 ^ room
below_next zero code number some h k = absurd (omega arith)
below_next (suc room) code number some h k =
    let same : suc room - 1 ≡ room = omega arith in
    let small : number < 128 ^ room = rw same at k in
    rw pow-succ' (omega arith)

pub word_next : (room code number : ℕ) → 0 < room → room ≤ 9 → code < 81 → number < 128 ^ (room - 1) → code + 128 * number < 2 ^ 63
word_next room code number some l h k =
    let small = below_next room code number some h k in
    let most : 128 ^ room ≤ 128 ^ 9 = pow-le-pow_right (lit< tt) l in
    omega arith

put_tail : (x : ℕ) (xs ys : List ℕ) → put_mid 1 (length xs) (x ∷ xs) ys ≡ x ∷ ys
put_tail x xs ys = ap (λ behind. x ∷ (ys ++ behind)) (drop_of_length-le xs (omega arith)) ∙ ap (λ zs. x ∷ zs) (append-nil ys)

fits_if : (b : Bool) (free : ℕ) → nat_lt (if b then 1 else 0) free ≡ true
    → (if b then nat_lt 1 9 && nat_lt 0 (free - 1) else nat_lt 0 9) ≡ true
fits_if true free e = let above : 1 < free = ltb-true 1 free e in lt-ltb 0 (free - 1) (omega arith)
fits_if false free e = refl

-- what opens a group fits into it
placed-opens : (room free : ℕ) (item : Item) (items : List Item) → fits room free item ≡ false → opens free item ≡ true
    → placed room free (item ∷ items) ≡ new_group (placed 9 (free - 1) (item ∷ items))
placed-opens room free item items e f =
    rw (e, f, placed-fits 9 (free - 1) item items (fits_if (has_immediate item) free f)) refl

opened_list : (positions new : List ℕ) (p : Placed) (number : ℕ) → 0 < length positions
    → number ≡ p.number → new ≡ zeros_behind (length positions - 1) p.positions
    → slice_set (put_mid 1 (length positions - 1) positions new) 0 number ≡ zeros_behind (length positions) (new_group p).positions
opened_list [] new p number some e f = absurd (omega arith)
opened_list (x ∷ xs) new p number some e f =
    let same : suc (length xs) - 1 ≡ length xs = omega arith in
    let left : length xs - length p.positions ≡ suc (length xs) - suc (length p.positions) = omega arith in
    let whole : new ≡ zeros_behind (length xs) p.positions = rw same at f in
    rw same
    (ap (λ (zs : List ℕ). slice_set zs 0 number) (put_tail x xs new)
    ∙ ap₂ (λ (n : ℕ) (zs : List ℕ). n ∷ zs) e (whole ∙ ap (λ (n : ℕ). p.positions ++ replicate n 0) left))

pub opened : (room : ℕ) (positions new : List ℕ) (all : List Item) (item : Item) (items : List Item) (free number : ℕ) → all ≡ item ∷ items
    → fits room (length positions) item ≡ false → opens (length positions) item ≡ true → free ≡ length positions - 1
    → number ≡ (placed 9 free all).number → new ≡ zeros_behind free (placed 9 free all).positions
    → slice_set (put_mid 1 (length positions - 1) positions new) 0 number
    ≡ zeros_behind (length positions) (placed room (length positions) all).positions
opened room positions new all item items free number is e f g h k =
    let above : positions_of item < length positions = ltb-true (positions_of item) (length positions) f in
    rw (is, placed-opens room (length positions) item items e f)
    (opened_list positions new (placed 9 (length positions - 1) (item ∷ items)) number (omega arith) (rw (is, g) at h) (rw (is, g) at k))
