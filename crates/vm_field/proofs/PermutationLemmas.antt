-- What the steps of the permutation give: how many elements, and that they are elements; and its rounds one by one.
use Rattle.std.proofs.Common.{◌≡◌, ◌↔◌, ℕ, zero, suc, ◌+◌, ◌*◌, ◌<◌, ◌≤◌, Bool, true, false, cond, ◌==◌, List, [], ◌∷◌, length, map, take, drop, refl, sym, ap, ap₂, ◌∙◌, arith, lit<}
use Rattle.std.proofs.lemmas.List.{drop-drop, length-drop, length-map, length-take-le}
use Rattle.std.proofs.lemmas.List.Elements.{All-head, All-tail}
use Rattle.vm_field.specs.Limits.{number_of_constants}
use Rattle.vm_field.specs.Field.{prime, AreElements, felt_add, felt_pow, one_below, seventh_root}
use Rattle.vm_field.specs.Permutation.{added, mixed, rotated, row_product, powered, before_roots, round, rounds, permuted, round_constants, seventh_powers, seventh_roots}
use Rattle.vm_field.proofs.Inverses.{felt_pow-seventh_root, seventh_root-seventh}
use Rattle.vm_field.proofs.PowerLaws.{power-below}
use Rattle.vm_field.proofs.Elements.{elements-cons, elements-none}

-- ---- how many

pub length-added : (xs constants : List ℕ) → length xs ≤ length constants → length (added xs constants) ≡ length xs
length-added [] constants h = refl
length-added (x ∷ xs) [] h = absurd (omega arith)
length-added (x ∷ xs) (c ∷ constants) h = ap suc (length-added xs constants (omega arith))

pub length-mixed : (x : List ℕ) → length (mixed x) ≡ 12
unfolding mixed
length-mixed x = refl

pub length-round_constants : (constants : List ℕ) (k : ℕ) → length constants ≡ number_of_constants → k < 7 → length (round_constants constants k) ≡ 24
length-round_constants constants k h below =
    length-take-le 24 (drop (24 * k) constants) (omega (arith, length-drop (24 * k) constants))

pub length-before_roots : (constants x : List ℕ) → length constants ≡ 24 → length (before_roots constants x) ≡ 12
unfolding before_roots
length-before_roots constants x h =
    let later : length (drop 12 constants) ≡ 12 = rw (length-drop, h) refl in
    let second : length (take 12 (drop 12 constants)) ≡ 12 = length-take-le 12 (drop 12 constants) (omega arith) in
    let mix : length (mixed (powered (take 12 constants) x)) ≡ 12 = length-mixed (powered (take 12 constants) x) in
    let enough : length (mixed (powered (take 12 constants) x)) ≤ length (take 12 (drop 12 constants)) = omega arith in
    rw (length-added (mixed (powered (take 12 constants) x)) (take 12 (drop 12 constants)) enough) mix

pub length-round : (constants x : List ℕ) → length constants ≡ 24 → length (round constants x) ≡ 12
unfolding round
length-round constants x h = rw length-map (length-before_roots constants x h)

pub length-rounds : (n : ℕ) (constants x : List ℕ) → 24 * n ≤ length constants → length x ≡ 12 → length (rounds n constants x) ≡ 12
unfolding rounds
length-rounds zero constants x h e = e
length-rounds (suc n) constants x h e =
    length-rounds n (drop 24 constants) (round (take 24 constants) x)
    (omega (arith, length-drop 24 constants))
    (length-round (take 24 constants) x (length-take-le 24 constants (omega arith)))

pub length-permuted : (constants x : List ℕ) → length constants ≡ number_of_constants → length x ≡ 12 → length (permuted constants x) ≡ 12
unfolding permuted
length-permuted constants x h e = length-rounds 7 constants x (omega arith) e

-- ---- elements

pub elements-added : (xs constants : List ℕ) → AreElements (added xs constants)
elements-added [] constants = elements-none
elements-added (x ∷ xs) [] = elements-none
elements-added (x ∷ xs) (c ∷ constants) =
    elements-cons (felt_add x c) (added xs constants) (omega arith) (elements-added xs constants)

row_product-below : (x : List ℕ) → row_product x < prime
unfolding row_product
row_product-below x = omega arith

elements-products : (xs : List (List ℕ)) → AreElements (map row_product xs)
elements-products [] = elements-none
elements-products (x ∷ xs) =
    elements-cons (row_product x) (map row_product xs) (row_product-below x) (elements-products xs)

pub elements-mixed : (x : List ℕ) → AreElements (mixed x)
unfolding mixed
elements-mixed x =
    elements-products
    (rotated 0 x ∷ rotated 1 x ∷ rotated 2 x ∷ rotated 3 x ∷ rotated 4 x ∷ rotated 5 x
    ∷ rotated 6 x ∷ rotated 7 x ∷ rotated 8 x ∷ rotated 9 x ∷ rotated 10 x ∷ rotated 11 x ∷ [])

-- whatever is mapped, where the map gives elements
elements-mapped : (f : ℕ → ℕ) → ((e : ℕ) → f e < prime) → (xs : List ℕ) → AreElements (map f xs)
elements-mapped f below [] = elements-none
elements-mapped f below (x ∷ xs) = elements-cons (f x) (map f xs) (below x) (elements-mapped f below xs)

pub elements-seventh_powers : (xs : List ℕ) → AreElements (seventh_powers xs)
elements-seventh_powers xs = elements-mapped (λ e. felt_pow e 7) (λ e. power-below prime e 7 (lit< tt)) xs

one_of_two : (b : Bool) (n m : ℕ) → m < suc n → cond b n m < suc n
one_of_two true n m h = omega arith
one_of_two false n m h = h

one_below-below : (test : ℕ → Bool) (n : ℕ) → one_below test (suc n) < suc n
unfolding one_below
one_below-below test zero = one_of_two (test 0) 0 0 (lit< tt)
one_below-below test (suc n) =
    let less : one_below test (suc n) < suc n = one_below-below test n in
    one_of_two (test (suc n)) (suc n) (one_below test (suc n)) (omega arith)

pub seventh_root-element : (x : ℕ) → seventh_root x < prime
unfolding seventh_root
seventh_root-element x = one_below-below (λ y. felt_pow y 7 == x) 18446744069414584320

pub elements-seventh_roots : (xs : List ℕ) → AreElements (seventh_roots xs)
elements-seventh_roots xs = elements-mapped seventh_root seventh_root-element xs

pub elements-before_roots : (constants x : List ℕ) → AreElements (before_roots constants x)
unfolding before_roots
elements-before_roots constants x = elements-added (mixed (powered (take 12 constants) x)) (take 12 (drop 12 constants))

pub elements-round : (constants x : List ℕ) → AreElements (round constants x)
unfolding round
elements-round constants x = elements-seventh_roots (before_roots constants x)

pub elements-rounds : (n : ℕ) (constants x : List ℕ) → AreElements x → AreElements (rounds n constants x)
unfolding rounds
elements-rounds zero constants x below = below
elements-rounds (suc n) constants x below =
    elements-rounds n (drop 24 constants) (round (take 24 constants) x) (elements-round (take 24 constants) x)

-- of any state, since each round gives elements
pub elements-permuted : (constants x : List ℕ) → length constants ≡ number_of_constants → length x ≡ 12 → AreElements (permuted constants x)
unfolding permuted rounds
elements-permuted constants x h e =
    elements-rounds 6 (drop 24 constants) (round (take 24 constants) x) (elements-round (take 24 constants) x)

-- ---- rounds, one by one

pub rounds-none : (constants x : List ℕ) → rounds 0 constants x ≡ x
unfolding rounds
rounds-none constants x = refl

-- one round more is the round under the next constants
pub rounds-last : (k : ℕ) (constants x : List ℕ)
    → rounds (suc k) constants x ≡ round (round_constants constants k) (rounds k constants x)
unfolding rounds
rounds-last zero constants x = refl
rounds-last (suc k) constants x =
    rounds-last k (drop 24 constants) (round (take 24 constants) x)
    ∙ ap (λ cs. round (take 24 cs) (rounds k (drop 24 constants) (round (take 24 constants) x)))
    (drop-drop (24 * k) 24 constants ∙ ap (λ n. drop n constants) next)
  where
    next : 24 + 24 * k ≡ 24 * suc k
    next = omega arith

pub permuted-is : (constants x : List ℕ) → permuted constants x ≡ rounds 7 constants x
unfolding permuted
permuted-is constants x = refl

powers-roots : (xs : List ℕ) → AreElements xs → seventh_powers (seventh_roots xs) ≡ xs
powers-roots [] below = refl
powers-roots (x ∷ xs) below =
    ap₂ (λ (e : ℕ) (es : List ℕ). e ∷ es) (felt_pow-seventh_root x (All-head (λ e. e < prime) x xs below))
    (powers-roots xs (All-tail (λ e. e < prime) x xs below))

roots-powers : (xs : List ℕ) → AreElements xs → seventh_roots (seventh_powers xs) ≡ xs
roots-powers [] below = refl
roots-powers (x ∷ xs) below =
    ap₂ (λ (e : ℕ) (es : List ℕ). e ∷ es) (seventh_root-seventh x (All-head (λ e. e < prime) x xs below))
    (roots-powers xs (All-tail (λ e. e < prime) x xs below))

-- a round is known by the seventh powers of what it gives
pub round-powers : (constants x y : List ℕ) → AreElements y → (y ≡ round constants x) ↔ (seventh_powers y ≡ before_roots constants x)
unfolding round
round-powers constants x y below = (
  λ is. ap seventh_powers is ∙ powers-roots (before_roots constants x) (elements-before_roots constants x),
  λ is. sym (roots-powers y below) ∙ ap seventh_roots is,
)
