-- The rows of accesses give these, and so do those of the same accesses in another order.
use Rattle.facts_memory.proofs.Words.{◌≡◌, ℕ, ◌+◌, List, [], ◌∷◌, map, length, Option, Some, None, refl, sym, ap, ap₂, ◌∙◌, arith, sum_by, IsPermutation}
use Rattle.facts_memory.proofs.Words.{sum_by-IsPermutation, sum_by-cons, IsWord, word-again, total-front, Access, access_given, access_of, row_behind}
use Rattle.facts_memory.proofs.Words.{rows_behind, access_at}
use Rattle.buses.specs.Counts.{counted, hits, over_rows, total}
use Rattle.buses.specs.declared.bus.Bus.TheVariants as bus
use Rattle.air_kit.specs.declared.trace.TableName.TheVariants as table
use Rattle.air_kit.specs.ChipTuples.{chip_given}
use Rattle.facts_memory.proofs.Asked.{given_is, rows_give, same_fields, tuple_of}
use Rattle.facts_memory.proofs.RowsZero.{Linked}

-- the row of an access shows it
access_again : (before : Option Access) (a : Access) → IsWord a.word → access_of (row_behind before a) ≡ a
unfolding row_behind
access_again before a w = same_fields _ a refl refl refl refl (word-again a.word w.size)

counts_more : (a : Access) (accesses : List Access) (u : List ℕ)
    → counted (map access_given (a ∷ accesses)) u ≡ counted (access_given a ∷ []) u + counted (map access_given accesses) u
unfolding counted
counts_more a accesses u = omega arith

linked_give : (before : Option Access) (accesses : List Access) (u : List ℕ) → Linked before accesses
    → rows_give (rows_behind before accesses) u ≡ counted (map access_given accesses) u
unfolding rows_behind Linked total counted
linked_give before [] u l = refl
linked_give before (a ∷ accesses) u l =
    total-front (length (rows_behind (Some a) accesses))
    (λ q. counted (access_given (access_at (row_behind before a ∷ rows_behind (Some a) accesses) q) ∷ []) u)
    ∙ ap₂ (λ m n. m + n) (ap (λ b. counted (access_given b ∷ []) u) (access_again before a l.0.shown.word)) (linked_give (Some a) accesses u l.1)
    ∙ sym (counts_more a accesses u)

-- ---- another order

as_sum : (accesses : List Access) (u : List ℕ) → counted (map access_given accesses) u ≡ sum_by (λ a. hits (tuple_of a) 1 u) accesses
unfolding counted
as_sum [] u = refl
as_sum (a ∷ accesses) u = ap (λ n. hits (tuple_of a) 1 u + n) (as_sum accesses u) ∙ sym (sum_by-cons (λ b. hits (tuple_of b) 1 u) a accesses)

pub sorted_give : (accesses sorted : List Access) → IsPermutation accesses sorted → Linked None sorted → (u : List ℕ)
    → over_rows (chip_given bus.Memory table.Memory) (rows_behind None sorted) u ≡ counted (map access_given accesses) u
sorted_give accesses sorted p l u =
    given_is (rows_behind None sorted) u ∙ linked_give None sorted u l ∙ as_sum sorted u
    ∙ sum_by-IsPermutation (λ a. hits (tuple_of a) 1 u) accesses sorted p ∙ sym (as_sum accesses u)
