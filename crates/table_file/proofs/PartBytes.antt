-- How parts are written one after the other.
use Rattle.table_file.proofs.Words.{◌≡◌, ℕ, List, [], ◌∷◌, ◌++◌, flat_map, refl, ap, parts_bytes}

module _ {A : Type 0} (write : A → List ℕ) where
  -- joined as std joins what a function makes of each
  pub flat : (xs : List A) → flat_map write xs ≡ parts_bytes write xs
  unfolding parts_bytes
  flat [] = refl
  flat (x ∷ xs) = ap (λ bs. write x ++ bs) (flat xs)
