-- What places and numbers name.
use Rattle.std.proofs.Common.{◌≡◌, Bool, true, false, ◌&&◌, nat_eq, nat_lt, ℕ, zero, suc, ◌+◌, ◌-◌, ◌<◌, ◌≤◌, List, [], ◌∷◌, ◌++◌, length, drop, take, reverse, slice_index_or, append-nil, refl, sym, ap, ap₂, ◌∙◌, arith, length-append}
use Rattle.std.proofs.lemmas.List.{drop-append-le, drop_all, get_or_append_left, get_or_read, length-drop, take-append-le, take_more}
use Rattle.std.proofs.lemmas.Bool.{eqb-true, ltb-true}
use borrow.Rule.Slice.PartMut.{put_mid}
use Rattle.vm_field.proofs.HexText.{put_next}
use Rattle.machine_cycles.specs.declared.names.Scene.{Scene}
use Rattle.machine_cycles.specs.Names.{named, under}

-- a number names what it named
pub named-more : (none : List ℕ) (xs more : List (List ℕ)) (n : ℕ) → n ≤ length xs → named none (xs ++ more) n ≡ named none xs n
named-more none xs more zero within = refl
named-more none xs more (suc n) within = get_or_append_left xs more none n (omega (arith, within))

-- a place names the cells that it named
pub under-more : (list more : List ℕ) (place : ℕ) → place + 12 ≤ length list → under (list ++ more) place ≡ under list place
under-more list more place within =
    ap (λ xs. reverse (take 12 xs)) (drop-append-le place list more (omega (arith, within)))
    ∙ ap reverse (take-append-le 12 (drop place list) more (omega (arith, within, length-drop place list)))

-- scenes with the same parts
pub scene-same : (a b : Scene) → a.digest ≡ b.digest → (a.fmp ≡ b.fmp) × (a.context ≡ b.context) × (a.nesting ≡ b.nesting) × (a.in_syscall ≡ b.in_syscall)
    → a ≡ b
scene-same a b digest others = rw (digest, others.0, others.1, others.2, others.3) refl

-- cells put behind four others
pub put-behind : (x zeros y : List ℕ) (k : ℕ) → length x ≡ 4 → k ≡ length (x ++ zeros) - 4 → put_mid 4 k (x ++ zeros) y ≡ x ++ y
put-behind x zeros y k four count =
    put_next 4 k x zeros y four
    ∙ ap (λ rest. x ++ (y ++ rest)) (drop_all k zeros (omega (arith, four, count, length-append x zeros)))
    ∙ ap (λ xs. x ++ xs) (append-nil y)

-- the number of a place names what stands there
pub named-at : (xs : List (List ℕ)) (n place : ℕ) (known x none : List ℕ) → n ≡ suc place → true ≡ nat_lt place (length xs)
    → known ≡ slice_index_or xs place known → known ≡ x → (n ≤ length xs) × (named none xs n ≡ x)
named-at xs n place known x none is there at same =
    let within : place < length xs = ltb-true place (length xs) (sym there) in
    rw is (omega (arith, within), sym (get_or_read xs place known within at none) ∙ same)

-- one more cell is the same
pub same-more : (xs ys : List ℕ) (i x y : ℕ) (same : Bool) → i < length xs → i < length ys → x ≡ slice_index_or xs i x → y ≡ slice_index_or ys i y
    → (same ≡ true → take i xs ≡ take i ys) → same && nat_eq x y ≡ true → take (i + 1) xs ≡ take (i + 1) ys
same-more xs ys i x y true in_xs in_ys at_x at_y before e =
    take_more xs i 0 in_xs
    ∙ ap₂ (λ zs z. zs ++ z ∷ []) (before refl) (sym (get_or_read xs i x in_xs at_x 0) ∙ eqb-true x y e ∙ get_or_read ys i y in_ys at_y 0)
    ∙ sym (take_more ys i 0 in_ys)
same-more xs ys i x y false in_xs in_ys at_x at_y before e = cc
