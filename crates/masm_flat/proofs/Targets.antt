-- The lists of procedures by their names, and their blocks.
use Rattle.masm_flat.proofs.Words.{◌≡◌, ℕ, List, [], ◌∷◌, map, refl, ap, arith, Contains, Contains-append_right, Source, Block, block_of, blocks_from}
use Rattle.masm_flat.proofs.Words.{Outside, ListOf, ListsOf, no_list, list_before}
use Rattle.masm_flat.specs.Blocks.{Piece, View, seen_as, seen_all}

-- the blocks of lists are seen one by one
pub seen-targets : {A : Type 0} (v : View A) (lists : List (List (Piece Block)))
    → seen_all v (blocks_from (map block_of lists)) ≡ map (λ ys. seen_as v (block_of ys)) lists
seen-targets v [] = refl
seen-targets v (ys ∷ lists) = ap (λ xs. seen_as v (block_of ys) ∷ xs) (seen-targets v lists)

module _ (source : Source) (out : Outside) where
  pub lists_of_all : (names : List (List ℕ)) → ((name : List ℕ) → Contains names name → (ys : List (Piece Block)) × ListOf source out name ys)
      → (lists : List (List (Piece Block))) × ListsOf source out names lists
  lists_of_all [] each = ([], no_list)
  lists_of_all (name ∷ names) each =
      let first = each name (0, omega arith, refl) in
      let more = lists_of_all names (λ n has. each n (Contains-append_right (name ∷ []) names n has)) in
      (first.0 ∷ more.0, list_before name first.1 more.1)
