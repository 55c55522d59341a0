-- What the rows of a table give, row by row.
use Rattle.fill_chips.proofs.Words.{◌≡◌, ℕ, zero, suc, ◌+◌, List, [], ◌∷◌, length, slice_index_or, refl, arith, counted, over_rows, counted-none, total-front}
use Rattle.buses.specs.Counts.{Counted, OfRow, over_first, total}

total-zero : (n : ℕ) (f : ℕ → ℕ) → ((i : ℕ) → f i ≡ 0) → total n f ≡ 0
unfolding total
total-zero zero f none = refl
total-zero (suc n) f none = let e = total-zero n f none in let last = none n in omega (arith, e, last)

pub over-none : (tuples : OfRow) (u : List ℕ) → over_rows tuples [] u ≡ 0
unfolding over_first total
over-none tuples u = refl

pub over-cons : (tuples : List ℕ → List Counted) (x : List ℕ) (rows : List (List ℕ)) (u : List ℕ)
    → over_rows (λ i y next. tuples y) (x ∷ rows) u ≡ counted (tuples x) u + over_rows (λ i y next. tuples y) rows u
unfolding over_first
over-cons tuples x rows u = total-front (length rows) (λ i. counted (tuples (slice_index_or (x ∷ rows) i [])) u)

-- rows that give nothing
pub over-quiet : (rows : List (List ℕ)) (u : List ℕ) → over_rows (λ i x next. []) rows u ≡ 0
unfolding over_first
over-quiet rows u = total-zero (length rows) (λ i. counted [] u) (λ i. counted-none u)
