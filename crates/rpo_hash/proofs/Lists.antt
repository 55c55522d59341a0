-- Lists of twelve, and lists joined for each round.
use Rattle.std.proofs.Common.{◌≡◌, ℕ, suc, ◌+◌, ◌<◌, List, [], ◌∷◌, ◌++◌, length, get_or, slice_index, take, drop, set, sym, refl, ap, ap₂, ◌∙◌, arith, add-one, take-suc-set}
use Rattle.std.proofs.Math.Seq.{take-append_seam, drop-append_seam, take-length}
use Rattle.vm_field.specs.Field.{felt_add}
use Rattle.vm_field.specs.Permutation.{added}

-- ---- parts of lists

pub front : {X : Type 0} (n : ℕ) (xs ys : List X) → length xs ≡ n → take n (xs ++ ys) ≡ xs
front n xs ys len = ap (λ k. take k (xs ++ ys)) (sym len) ∙ take-append_seam xs ys

pub back : {X : Type 0} (n : ℕ) (xs ys : List X) → length xs ≡ n → drop n (xs ++ ys) ≡ ys
back n xs ys len = ap (λ k. drop k (xs ++ ys)) (sym len) ∙ drop-append_seam xs ys

pub whole : {X : Type 0} (n : ℕ) (xs : List X) → length xs ≡ n → take n xs ≡ xs
whole n xs len = ap (λ k. take k xs) (sym len) ∙ take-length xs

-- the next place of a list that is filled
pub take-set_next : {X : Type 0} (xs : List X) (i : ℕ) (x : X) → i < length xs → take (i + 1) (set xs i x) ≡ take i xs ++ x ∷ []
take-set_next xs i x below = ap (λ n. take n (set xs i x)) (add-one i) ∙ take-suc-set xs i x below

-- ---- lists of numbers

-- twelve elements, each known by its place
pub twelve_elements : (xs : List ℕ) (a b c d e f g h i j k l : ℕ) → length xs ≡ 12 → a ≡ get_or xs 0 a → b ≡ get_or xs 1 b
    → c ≡ get_or xs 2 c → d ≡ get_or xs 3 d → e ≡ get_or xs 4 e → f ≡ get_or xs 5 f → g ≡ get_or xs 6 g → h ≡ get_or xs 7 h
    → i ≡ get_or xs 8 i → j ≡ get_or xs 9 j → k ≡ get_or xs 10 k → l ≡ get_or xs 11 l
    → xs ≡ a ∷ b ∷ c ∷ d ∷ e ∷ f ∷ g ∷ h ∷ i ∷ j ∷ k ∷ l ∷ []
twelve_elements (x0 ∷ x1 ∷ x2 ∷ x3 ∷ x4 ∷ x5 ∷ x6 ∷ x7 ∷ x8 ∷ x9 ∷ x10 ∷ x11 ∷ []) a b c d e f g h i j k l len e0 e1 e2 e3 e4 e5 e6
    e7 e8 e9 e10 e11 = cc
twelve_elements _ a b c d e f g h i j k l len e0 e1 e2 e3 e4 e5 e6 e7 e8 e9 e10 e11 = absurd (omega arith)

-- twelve elements, each read at its place
pub twelve_places : (xs : List ℕ) (a b c d e f g h i j k l : ℕ) → length xs ≡ 12
    → xs ≡ get_or xs 0 a ∷ get_or xs 1 b ∷ get_or xs 2 c ∷ get_or xs 3 d ∷ get_or xs 4 e ∷ get_or xs 5 f ∷ get_or xs 6 g
    ∷ get_or xs 7 h ∷ get_or xs 8 i ∷ get_or xs 9 j ∷ get_or xs 10 k ∷ get_or xs 11 l ∷ []
twelve_places (x0 ∷ x1 ∷ x2 ∷ x3 ∷ x4 ∷ x5 ∷ x6 ∷ x7 ∷ x8 ∷ x9 ∷ x10 ∷ x11 ∷ []) a b c d e f g h i j k l len = refl
twelve_places _ a b c d e f g h i j k l len = absurd (omega arith)

-- a list of sums is known by its places
pub added-by_place : (xs cs ss : List ℕ) → length cs ≡ length xs → length ss ≡ length xs
    → ((k : ℕ) → k < length xs → slice_index ss k ≡ felt_add (slice_index xs k) (slice_index cs k)) → ss ≡ added xs cs
added-by_place [] cs [] lc ls at = refl
added-by_place [] cs (s ∷ ss) lc ls at = absurd (omega arith)
added-by_place (x ∷ xs) [] ss lc ls at = absurd (omega arith)
added-by_place (x ∷ xs) (c ∷ cs) [] lc ls at = absurd (omega arith)
added-by_place (x ∷ xs) (c ∷ cs) (s ∷ ss) lc ls at =
    ap₂ (λ (y : ℕ) (ys : List ℕ). y ∷ ys) (at 0 (omega arith))
    (added-by_place xs cs ss (omega arith) (omega arith) (λ k h. at (suc k) (omega arith)))
