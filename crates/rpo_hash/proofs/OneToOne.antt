-- The permutation takes no two states of twelve elements to one.
use Rattle.std.proofs.Common.{◌≡◌, ℕ, zero, suc, ◌*◌, ◌<◌, List, [], ◌∷◌, length, map, take, drop, All, sym, refl, ap, ap₂, ◌∙◌, arith, length-drop}
use Rattle.std.proofs.lemmas.List.{length-take-le, length-map}
use Rattle.std.proofs.lemmas.List.Elements.{All-head, All-tail}
use Rattle.vm_field.specs.Limits.{number_of_constants}
use Rattle.vm_field.specs.Field.{prime, felt_add, felt_pow, seventh_root}
use Rattle.vm_field.specs.Permutation.{added, mixed, seventh_powers, seventh_roots, powered, before_roots, round, rounds, permuted}
use Rattle.vm_field.proofs.Inverses.{felt_pow-seventh_root, same_from_seventh}
use Rattle.vm_field.proofs.PermutationLemmas.{elements-added, elements-before_roots, elements-mixed, elements-round, elements-seventh_powers, elements-seventh_roots, length-added, length-before_roots, length-mixed, length-round}
use Rattle.rpo_hash.specs.States.{IsState}
use Rattle.rpo_hash.proofs.Matrix.{same_from_mixed}

-- ---- sums

same_term : (a b c : ℕ) → a < prime → b < prime → felt_add a c ≡ felt_add b c → a ≡ b
same_term a b c ha hb e = omega arith

same_from_added : (x y c : List ℕ) → length y ≡ length x → length c ≡ length x → All (λ e. e < prime) x → All (λ e. e < prime) y
    → added x c ≡ added y c → x ≡ y
same_from_added [] [] c ly lc bx by e = refl
same_from_added [] (b ∷ y) c ly lc bx by e = absurd (omega arith)
same_from_added (a ∷ x) [] c ly lc bx by e = absurd (omega arith)
same_from_added (a ∷ x) (b ∷ y) [] ly lc bx by e = absurd (omega arith)
same_from_added (a ∷ x) (b ∷ y) (k ∷ c) ly lc bx by e =
    let heads : felt_add a k ≡ felt_add b k = cc in
    let tails : added x c ≡ added y c = cc in
    ap₂ (λ (z : ℕ) (zs : List ℕ). z ∷ zs)
    (same_term a b k (All-head (λ e. e < prime) a x bx) (All-head (λ e. e < prime) b y by) heads)
    (same_from_added x y c (omega arith) (omega arith) (All-tail (λ e. e < prime) a x bx) (All-tail (λ e. e < prime) b y by) tails)

-- ---- powers and roots

-- a function that takes no two elements to one takes no two lists of elements to one
same_from_map : (f : ℕ → ℕ) → ((a b : ℕ) → a < prime → b < prime → f a ≡ f b → a ≡ b) → (x y : List ℕ)
    → All (λ e. e < prime) x → All (λ e. e < prime) y → map f x ≡ map f y → x ≡ y
same_from_map f one [] [] bx by e = refl
same_from_map f one [] (b ∷ y) bx by e = cc
same_from_map f one (a ∷ x) [] bx by e = cc
same_from_map f one (a ∷ x) (b ∷ y) bx by e =
    let heads : f a ≡ f b = cc in
    let tails : map f x ≡ map f y = cc in
    ap₂ (λ (z : ℕ) (zs : List ℕ). z ∷ zs)
    (one a b (All-head (λ e. e < prime) a x bx) (All-head (λ e. e < prime) b y by) heads)
    (same_from_map f one x y (All-tail (λ e. e < prime) a x bx) (All-tail (λ e. e < prime) b y by) tails)

same_from_root : (a b : ℕ) → a < prime → b < prime → seventh_root a ≡ seventh_root b → a ≡ b
same_from_root a b ha hb e = sym (felt_pow-seventh_root a ha) ∙ ap (λ r. felt_pow r 7) e ∙ felt_pow-seventh_root b hb

-- ---- half a round: matrix and constants

half : List ℕ → List ℕ → List ℕ
half c x = added (mixed x) c

half-IsState : (c x : List ℕ) → length c ≡ 12 → IsState (half c x)
unfolding half
half-IsState c x lc = record {
  size = length-added (mixed x) c (omega (arith, length-mixed x)) ∙ length-mixed x;
  below = elements-added (mixed x) c;
}

same_from_half : (c x y : List ℕ) → length c ≡ 12 → IsState x → IsState y → half c x ≡ half c y → x ≡ y
unfolding half
same_from_half c x y lc sx sy e =
    same_from_mixed x y sx.size sy.size sx.below sy.below
    (same_from_added (mixed x) (mixed y) c (length-mixed y ∙ sym (length-mixed x)) (lc ∙ sym (length-mixed x)) (elements-mixed x)
    (elements-mixed y) e)

powers-IsState : (x : List ℕ) → IsState x → IsState (seventh_powers x)
powers-IsState x s = record {
  size = length-map x (λ e. felt_pow e 7) ∙ s.size;
  below = elements-seventh_powers x;
}

pub roots-IsState : (x : List ℕ) → IsState x → IsState (seventh_roots x)
roots-IsState x s = record { size = length-map x seventh_root ∙ s.size; below = elements-seventh_roots x }

-- ---- rounds

round-halves : (c x : List ℕ) → round c x ≡ seventh_roots (half (take 12 (drop 12 c)) (seventh_powers (half (take 12 c) x)))
unfolding round before_roots powered half
round-halves c x = refl

first_twelve : (c : List ℕ) → length c ≡ 24 → length (take 12 c) ≡ 12
first_twelve c lc = length-take-le 12 c (omega arith)

second_twelve : (c : List ℕ) → length c ≡ 24 → length (take 12 (drop 12 c)) ≡ 12
second_twelve c lc = length-take-le 12 (drop 12 c) (omega (arith, length-drop 12 c))

pub before_roots-IsState : (c x : List ℕ) → length c ≡ 24 → IsState (before_roots c x)
before_roots-IsState c x lc = record { size = length-before_roots c x lc; below = elements-before_roots c x }

pub round-IsState : (c x : List ℕ) → length c ≡ 24 → IsState (round c x)
round-IsState c x lc = record { size = length-round c x lc; below = elements-round c x }

same_from_round : (c x y : List ℕ) → length c ≡ 24 → IsState x → IsState y → round c x ≡ round c y → x ≡ y
same_from_round c x y lc sx sy e =
    same_from_half first x y (first_twelve c lc) sx sy
    (same_from_map (λ e. felt_pow e 7) same_from_seventh (half first x) (half first y) hx.below hy.below
    (same_from_half second (seventh_powers (half first x)) (seventh_powers (half first y)) (second_twelve c lc) (powers-IsState (half first x) hx)
    (powers-IsState (half first y) hy)
    (same_from_map seventh_root same_from_root (half second (seventh_powers (half first x))) (half second (seventh_powers (half first y)))
    (half-IsState second (seventh_powers (half first x)) (second_twelve c lc)).below
    (half-IsState second (seventh_powers (half first y)) (second_twelve c lc)).below (sym (round-halves c x) ∙ e ∙ round-halves c y))))
  where
    first : List ℕ
    first = take 12 c

    second : List ℕ
    second = take 12 (drop 12 c)

    hx : IsState (half first x)
    hx = half-IsState first x (first_twelve c lc)

    hy : IsState (half first y)
    hy = half-IsState first y (first_twelve c lc)

rounds-IsState : (n : ℕ) (c x : List ℕ) → length c ≡ 24 * suc n → IsState (rounds (suc n) c x)
unfolding rounds
rounds-IsState zero c x lc = round-IsState (take 24 c) x (length-take-le 24 c (omega arith))
rounds-IsState (suc n) c x lc = rounds-IsState n (drop 24 c) (round (take 24 c) x) (omega (arith, length-drop 24 c))

same_from_rounds : (n : ℕ) (c x y : List ℕ) → length c ≡ 24 * n → IsState x → IsState y → rounds n c x ≡ rounds n c y → x ≡ y
unfolding rounds
same_from_rounds zero c x y lc sx sy e = e
same_from_rounds (suc n) c x y lc sx sy e =
    same_from_round (take 24 c) x y (length-take-le 24 c (omega arith)) sx sy
    (same_from_rounds n (drop 24 c) (round (take 24 c) x) (round (take 24 c) y) (omega (arith, length-drop 24 c))
    (round-IsState (take 24 c) x (length-take-le 24 c (omega arith))) (round-IsState (take 24 c) y (length-take-le 24 c (omega arith))) e)

pub same_from_permuted : (c x y : List ℕ) → length c ≡ number_of_constants → IsState x → IsState y → permuted c x ≡ permuted c y → x ≡ y
unfolding permuted
same_from_permuted c x y lc sx sy e = same_from_rounds 7 c x y lc sx sy e

pub permuted-IsState : (c x : List ℕ) → length c ≡ number_of_constants → IsState (permuted c x)
unfolding permuted
permuted-IsState c x lc = rounds-IsState 6 c x lc
