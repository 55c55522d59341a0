-- The rows of a span have one reading as batches.
use Rattle.sound_runs.proofs.Words.{◌≡◌, ℕ, List, ◌∷◌, refl, sym, ap, ◌∙◌, subst, Item, eight, row_at, never, IsAt, AreItems, AreBatches, HasBatchRows}
use Rattle.sound_runs.proofs.Words.ops

-- two readings are one
pub record SameBatches (e f : ℕ) (xs ys : List (List ℕ)) : Type 0 where
  pub end : e ≡ f
  pub batches : xs ≡ ys

module _ {rows : List (List ℕ)} where
  items_end : {r e f : ℕ} {xs ys : List Item} → AreItems rows r e xs → AreItems rows r f ys → e ≡ f
  items_end (AreItems.over q more no_item) (AreItems.over p more2 no_item2) = refl
  items_end (AreItems.over q more no_item) (AreItems.next p f2 items more2 is rest) = never (sym is ∙ no_item)
  items_end (AreItems.next q e2 items more is rest) (AreItems.over p more2 no_item) = never (sym is ∙ no_item)
  items_end (AreItems.next q e2 items more is rest) (AreItems.next p f2 items2 more2 is2 rest2) = items_end rest rest2

  respan_no_end : {A : Type 0} {e f : ℕ} → e ≡ f → IsAt rows e ops.End → IsAt rows f ops.Respan → A
  respan_no_end same ends begins = let at = subst (λ (m : ℕ). IsAt rows m ops.End) same ends in absurd (let none : ⊥ = cc (at.is, begins.is) in none)

  batch_end : {i e f : ℕ} → HasBatchRows rows i e → HasBatchRows rows i f → e ≡ f
  batch_end one other = items_end one.are other.are

  pub same_batches : {i e f : ℕ} {xs ys : List (List ℕ)} → AreBatches rows i e xs → AreBatches rows i f ys → SameBatches e f xs ys
  same_batches (AreBatches.last q p batch ends) (AreBatches.last q2 p2 batch2 ends2) = record { end = batch_end batch batch2; batches = refl }
  same_batches (AreBatches.last q p batch ends) (AreBatches.more q2 r p2 later batch2 respan rest) = respan_no_end (batch_end batch batch2) ends respan
  same_batches (AreBatches.more q2 r p2 later batch2 respan rest) (AreBatches.last q p batch ends) = respan_no_end (batch_end batch batch2) ends respan
  same_batches {i} {f = f} (AreBatches.more q r p later batch respan rest) (AreBatches.more q2 r2 p2 later2 batch2 respan2 rest2) =
      let same = same_batches rest (subst (λ (m : ℕ). AreBatches rows m f later2) (batch_end batch2 batch) rest2) in
      record { end = same.end; batches = ap (λ bs. eight (row_at rows i) ∷ bs) same.batches }
