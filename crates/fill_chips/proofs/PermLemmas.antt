-- The rows of permutations, one by one.
use Rattle.fill_chips.proofs.Words.{◌≡◌, ℕ, zero, suc, Bool, false, List, [], ◌∷◌, ◌++◌, Result, Ok, Err, OnOk, refl, ap, ◌∙◌, bit_of, Perm, perm_row}
use Rattle.fill_chips.proofs.Words.{rows_of_perms}
use Rattle.vm_field.specs.Permutation.{rounds}
use Rattle.facts_hasher.specs.PermRows.{rows_before}

before-append : (constants : List ℕ) (p : Perm) (rows more : List (List ℕ))
    → rows_before constants p (rows ++ more) ≡ rows_before constants p rows ++ more
unfolding rows_before
before-append constants p rows more = refl

-- the rows of permutations and more
pub rows-append : (constants : List ℕ) (perms more : List Perm)
    → rows_of_perms constants (perms ++ more) ≡ rows_of_perms constants perms ++ rows_of_perms constants more
unfolding rows_of_perms
rows-append constants [] more = refl
rows-append constants (q ∷ perms) more =
    ap (rows_before constants q) (rows-append constants perms more) ∙ before-append constants q (rows_of_perms constants perms) (rows_of_perms constants more)

-- one more permutation
pub rows-push : (constants : List ℕ) (perms : List Perm) (p : Perm)
    → rows_of_perms constants (perms ++ p ∷ []) ≡ rows_of_perms constants perms ++ rows_before constants p []
unfolding rows_of_perms
rows-push constants perms p = rows-append constants perms (p ∷ [])

-- the first rows of a permutation
unfoldable pub first_rows : List ℕ → Perm → ℕ → List (List ℕ)
first_rows constants p zero = []
first_rows constants p (suc k) = first_rows constants p k ++ perm_row constants p k false ∷ []

pub first-all : (constants : List ℕ) (p : Perm) → first_rows constants p 7 ++ perm_row constants p 7 p.more ∷ [] ≡ rows_before constants p []
unfolding first_rows rows_before
first-all constants p = refl

-- a row by its state
pub row-is : (constants : List ℕ) (p : Perm) (k : ℕ) (goes_on : Bool) (state : List ℕ) → state ≡ rounds k constants p.start
    → bit_of p.mode ∷ bit_of p.cont ∷ bit_of goes_on ∷ state ≡ perm_row constants p k goes_on
unfolding perm_row
row-is constants p k goes_on state e = ap (λ s. bit_of p.mode ∷ bit_of p.cont ∷ bit_of goes_on ∷ s) e

-- what follows where all went well
pub ok_then : {E : Type 0} {P Q : Type 0} (r : Result (Unit {0}) E) → (P → Q) → OnOk r P → OnOk r Q
ok_then (Ok x) f h = f h
ok_then (Err e) f h = tt
