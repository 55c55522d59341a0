-- Of accesses that fit, put in order, each fits behind the one before; so their rows show them.
use Rattle.facts_memory.proofs.Words.{◌≡◌, ℕ, suc, ◌<◌, List, [], ◌∷◌, drop, length, slice_index_or, Option, Some, None}
use Rattle.facts_memory.proofs.Words.{ap, subst, ◌∙◌, arith, IsNonDecreasingBy, IsPermutation, Access, FitsMemory, Keeps}
use Rattle.facts_memory.proofs.Words.{access_key, AccessesFit}
use Rattle.facts_memory.proofs.Fitting.{FitsBehind}
use Rattle.facts_memory.proofs.RowOrder.{Follows}
use Rattle.facts_memory.proofs.Words.{ShowsAccesses, length_permutation, rows_of_accesses}
use Rattle.facts_memory.proofs.RowsGive.{sorted_give}
use Rattle.facts_memory.proofs.RowsZero.{Linked, rows_limbs, rows_size, rows_zero}
use Rattle.facts_memory.proofs.SortedKeys.{IsInOrder, fits_at, follows_from, shown_at, strict}
use Rattle.facts_memory.proofs.SortedWords.{first_word, next_word}

keeps_from : {accesses : List Access} {a : Access} {word : List ℕ} (f : FitsMemory accesses a) → f.before ≡ word → Keeps a word
keeps_from f e = record { reads = λ k. f.reads k ∙ e; keeps = λ k. f.keeps k ∙ ap (λ w. drop 1 w) e }

module _ (accesses sorted : List Access) (o : IsInOrder accesses sorted) (d : Access) where
  first_fits : 0 < length sorted → FitsBehind None (slice_index_or sorted 0 d)
  first_fits h =
      let f = fits_at accesses sorted o d 0 h in
      record {
        shown = shown_at accesses sorted o d 0 h;
        order = λ b e. absurd (let clash : ⊥ = cc in clash);
        keeps = keeps_from f (first_word accesses sorted o d h f.before f.is_before);
      }

  next_fits : (q : ℕ) → suc q < length sorted → FitsBehind (Some (slice_index_or sorted q d)) (slice_index_or sorted (suc q) d)
  next_fits q h =
      let f = fits_at accesses sorted o d (suc q) h in
      record {
        shown = shown_at accesses sorted o d (suc q) h;
        order = λ b e. subst (λ x. Follows x (slice_index_or sorted (suc q) d)) (let same : slice_index_or sorted q d ≡ b = cc in same)
            (follows_from (slice_index_or sorted q d) (slice_index_or sorted (suc q) d) (shown_at accesses sorted o d q (omega (arith, h)))
            (shown_at accesses sorted o d (suc q) h) (strict accesses sorted o d q h));
        keeps = keeps_from f (next_word accesses sorted o d q h f.before f.is_before);
      }

linked_from : (before : Option Access) (accesses : List Access)
    → ((d : Access) → 0 < length accesses → FitsBehind before (slice_index_or accesses 0 d))
    → ((q : ℕ) (d : Access) → suc q < length accesses → FitsBehind (Some (slice_index_or accesses q d)) (slice_index_or accesses (suc q) d))
    → Linked before accesses
unfolding Linked
linked_from before [] first later = tt
linked_from before (a ∷ accesses) first later =
    (first a (omega arith), linked_from (Some a) accesses (λ d h. later 0 d (omega (arith, h))) (λ q d h. later (suc q) d (omega (arith, h))))

pub rows_show : (accesses sorted : List Access) → AccessesFit accesses → IsPermutation accesses sorted → IsNonDecreasingBy access_key sorted
    → ShowsAccesses accesses (rows_of_accesses sorted)
rows_show accesses sorted f p n = record {
  size = rows_size None sorted ∙ length_permutation accesses sorted p;
  zero = rows_zero sorted linked;
  limbs = rows_limbs sorted linked;
  given = sorted_give accesses sorted p linked;
}
  where
    o : IsInOrder accesses sorted
    o = record { fit = f; moved = p; order = n }

    linked : Linked None sorted
    linked = linked_from None sorted (first_fits accesses sorted o) (λ q d. next_fits accesses sorted o d q)
