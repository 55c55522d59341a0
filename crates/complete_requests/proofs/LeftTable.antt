-- What the left table asks are the tuples of the outputs below the sixteenth with its keys.
use Rattle.complete_rows.proofs.Words
use Words.{◌≡◌, ℕ, suc, ◌+◌, List, [], ◌∷◌, length, map, drop, slice_index, slice_index_or, refl, sym, ap, ◌∙◌, arith, drop-drop, get_or-drop, slice_get}
use Words.{counted, over_first, over_rows, total, total-front, cell_tuples, key_of, Claim}
use Words.bus
use Words.table
use Rattle.facts_hasher.proofs.Totals.{total-same}
use Rattle.air_kit.specs.ChipTuples.{chip_asked, left_asked, next_key}
use Rattle.chip_columns.specs.LeftColumns as left
use Rattle.complete_requests.proofs.Chains.{hit}
use Rattle.complete_requests.proofs.OverflowCells.{no_tuples, one_tuple}

-- the key of the next row
next_is : (x : List ℕ) (rows : List (List ℕ)) → next_key (slice_get (x ∷ rows) 1) ≡ key_of (map left.key rows)
next_is x [] = refl
next_is x (y ∷ rows) = refl

-- the tuple of row i of rows whose first one has the number j
abbrev cell_at : List ℕ → ℕ → List (List ℕ) → List ℕ → ℕ → ℕ
cell_at outputs j rows v i = hit (left.key (slice_index_or rows i []) ∷ slice_index outputs (16 + (j + i)) ∷ next_key (slice_get rows (suc i)) ∷ []) v

cells_from : (outputs : List ℕ) (j : ℕ) (rows : List (List ℕ)) (v : List ℕ)
    → total (length rows) (cell_at outputs j rows v) ≡ counted (cell_tuples (map left.key rows) (drop (16 + j) outputs)) v
unfolding total
cells_from outputs j [] v = sym (no_tuples (drop (16 + j) outputs) v)
cells_from outputs j (x ∷ rows) v =
    let front = total-front (length rows) (cell_at outputs j (x ∷ rows) v) in
    let first : cell_at outputs j (x ∷ rows) v 0 ≡ hit (left.key x ∷ slice_index (drop (16 + j) outputs) 0 ∷ key_of (map left.key rows) ∷ []) v
    = let place : 16 + (j + 0) ≡ 16 + j + 0 = omega arith in
    ap (λ n. hit (left.key x ∷ n ∷ next_key (slice_get (x ∷ rows) 1) ∷ []) v)
    (ap (slice_index outputs) place ∙ sym (get_or-drop (16 + j) outputs 0 0))
    ∙ ap (λ n. hit (left.key x ∷ slice_index (drop (16 + j) outputs) 0 ∷ n ∷ []) v) (next_is x rows) in
    let others : total (length rows) (λ i. cell_at outputs j (x ∷ rows) v (suc i)) ≡ total (length rows) (cell_at outputs (suc j) rows v)
    = total-same (length rows) (λ i. cell_at outputs j (x ∷ rows) v (suc i)) (cell_at outputs (suc j) rows v)
    (λ i low. let place : 16 + (j + suc i) ≡ 16 + (suc j + i) = omega arith in
    ap (λ n. hit (left.key (slice_index_or rows i []) ∷ slice_index outputs n ∷ next_key (slice_get rows (suc i)) ∷ []) v) place) in
    let later = cells_from outputs (suc j) rows v in
    let behind : drop 1 (drop (16 + j) outputs) ≡ drop (16 + suc j) outputs
    = let place : 16 + j + 1 ≡ 16 + suc j = omega arith in drop-drop 1 (16 + j) outputs ∙ ap (λ n. drop n outputs) place in
    let more = one_tuple (left.key x) (map left.key rows) (drop (16 + j) outputs) v in
    let moved : counted (cell_tuples (map left.key rows) (drop 1 (drop (16 + j) outputs))) v
    ≡ counted (cell_tuples (map left.key rows) (drop (16 + suc j) outputs)) v
    = ap (λ l. counted (cell_tuples (map left.key rows) l) v) behind in
    omega (arith, front, first, others, later, more, moved)

pub table_asks : (k : Claim) (rows : List (List ℕ)) (v : List ℕ)
    → over_rows (chip_asked k bus.Overflow table.Left) rows v ≡ counted (cell_tuples (map left.key rows) (drop 16 k.outputs)) v
unfolding over_first left_asked
table_asks k rows v =
    total-same (length rows)
    (λ i. hit (left.key (slice_index_or rows i []) ∷ slice_index k.outputs (16 + i) ∷ next_key (slice_get rows (suc i)) ∷ []) v)
    (cell_at k.outputs 0 rows v)
    (λ i low. let place : 16 + i ≡ 16 + (0 + i) = omega arith in
    ap (λ n. hit (left.key (slice_index_or rows i []) ∷ slice_index k.outputs n ∷ next_key (slice_get rows (suc i)) ∷ []) v) place)
    ∙ cells_from k.outputs 0 rows v
