-- What a list comes to, where its blocks are seen as something else.
use Rattle.masm_flat.proofs.Words.{◌≡◌, ℕ, zero, suc, List, [], ◌∷◌, ◌++◌, length, map, refl, sym, ap, ap₂, ◌∙◌, length-map, Item, Noop, plain_item}
use Rattle.masm_flat.proofs.Words.{Operation, Whole}
use Rattle.masm_flat.specs.Blocks.{Piece, span_before, blocks_behind, paired, joined, all_joined, whole_of, seen_pieces}

-- a view of blocks that goes with spans and joins
module _ {A B : Type 0} (f : A → B) (span : List Item → A) (join : A → A → A) (span' : List Item → B) (join' : B → B → B)
    (spans : (items : List Item) → f (span items) ≡ span' items) (joins : (a b : A) → f (join a b) ≡ join' (f a) (f b)) where
  seen-before : (items : List Item) (blocks : List A) → map f (span_before span join items blocks) ≡ span_before span' join' items (map f blocks)
  seen-before [] blocks = refl
  seen-before (item ∷ items) blocks = ap (λ s. s ∷ map f blocks) (spans (item ∷ items))

  seen-behind : (items : List Item) (pieces : List (Piece A))
      → map f (blocks_behind span join items pieces) ≡ blocks_behind span' join' items (seen_pieces f pieces)
  seen-behind items [] = seen-before items []
  seen-behind items (Operation item ∷ pieces) = seen-behind (items ++ item ∷ []) pieces
  seen-behind items (Whole block ∷ pieces) =
      seen-before items (block ∷ blocks_behind span join [] pieces)
      ∙ ap (λ bs. span_before span' join' items (f block ∷ bs)) (seen-behind [] pieces)

  seen-paired : (blocks : List A) → map f (paired span join blocks) ≡ paired span' join' (map f blocks)
  seen-paired [] = refl
  seen-paired (a ∷ []) = refl
  seen-paired (a ∷ b ∷ blocks) = ap₂ (λ t ts. t ∷ ts) (joins a b) (seen-paired blocks)

  pub seen-joined : (n : ℕ) (blocks : List A) → f (joined span join n blocks) ≡ joined span' join' n (map f blocks)
  seen-joined n [] = spans (plain_item Noop ∷ [])
  seen-joined n (a ∷ []) = refl
  seen-joined zero (a ∷ b ∷ blocks) = refl
  seen-joined (suc n) (a ∷ b ∷ blocks) = seen-joined n (paired span join (a ∷ b ∷ blocks)) ∙ ap (joined span' join' n) (seen-paired (a ∷ b ∷ blocks))

  pub seen-whole : (pieces : List (Piece A)) → f (whole_of span join pieces) ≡ whole_of span' join' (seen_pieces f pieces)
  unfolding all_joined whole_of
  seen-whole pieces =
      seen-joined _ (blocks_behind span join [] pieces)
      ∙ ap₂ (joined span' join') (sym (length-map (blocks_behind span join [] pieces) f) ∙ ap length (seen-behind [] pieces)) (seen-behind [] pieces)
