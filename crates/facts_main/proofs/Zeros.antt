-- Lists of values that are all 0, taken apart.
use Rattle.facts_main.proofs.Words.{◌≡◌, ℕ, zero, suc, ◌<◌, List, [], ◌∷◌, ◌++◌, refl, sym, ◌∙◌, arith, at_number, family, AllZero}
use Rattle.air_kit.proofs.FaultLemmas.{family_at}

-- each value of the numbers is 0
pub numbers_zero : (values : List ℕ) → ((number : ℕ) → at_number values number ≡ 0) → AllZero values
unfolding at_number
numbers_zero values zeros k = zeros (suc k)

pub zero_back : (xs ys : List ℕ) → AllZero (xs ++ ys) → AllZero ys
zero_back [] ys zeros = zeros
zero_back (x ∷ xs) ys zeros = zero_back xs ys (λ k. zeros (suc k))

pub zero_front : (xs ys : List ℕ) → AllZero (xs ++ ys) → AllZero xs
zero_front [] ys zeros k = refl
zero_front (x ∷ xs) ys zeros zero = zeros zero
zero_front (x ∷ xs) ys zeros (suc k) = zero_front xs ys (λ j. zeros (suc j)) k

pub zero_family : (n : ℕ) (value : ℕ → ℕ) → AllZero (family n value) → (j : ℕ) → j < n → value j ≡ 0
zero_family n value zeros j h = sym (family_at n value j h) ∙ zeros j

-- ---- put together

pub zero_both : (xs ys : List ℕ) → AllZero xs → AllZero ys → AllZero (xs ++ ys)
zero_both [] ys front back k = back k
zero_both (x ∷ xs) ys front back zero = front zero
zero_both (x ∷ xs) ys front back (suc k) = zero_both xs ys (λ j. front (suc j)) back k

pub zero_of_family : (n : ℕ) (value : ℕ → ℕ) → ((j : ℕ) → j < n → value j ≡ 0) → AllZero (family n value)
unfolding family
zero_of_family zero value each k = refl
zero_of_family (suc n) value each zero = each 0 (omega arith)
zero_of_family (suc n) value each (suc k) = zero_of_family n (λ j. value (suc j)) (λ j h. each (suc j) (omega (arith, h))) k
