-- A table file that is given piece by piece.
use Rattle.table_file.proofs.Words.{◌≡◌, ℕ, ◌+◌, ◌<◌, ◌≤◌, false, true, List, [], ◌∷◌, ◌++◌, drop, get_or, length, refl, sym, ap, ◌∙◌, append_assoc, drop_all}
use Rattle.table_file.proofs.Words.{drop_more, every_table, lengths_of, rows_of, TableName, Trace, parts_bytes, row_bytes, table_bytes, bytes_in, bytes_of}
use Rattle.table_file.proofs.Words.{head_bytes, this_version, left_of, rows_left}
use Rattle.table_file.proofs.TablesByName.{Rows, name_at, tables_at}

-- nothing was given
pub all_left : (t : Trace) → left_of t false 0 0 ≡ bytes_of t
unfolding left_of rows_left bytes_in parts_bytes
all_left t = refl

-- the head was given
pub head_goes : (t : Trace) (table row : ℕ) (piece : List ℕ) → piece ≡ head_bytes this_version (lengths_of t)
    → left_of t false table row ≡ piece ++ left_of t true table row
unfolding left_of
head_goes t table row piece is = ap (λ (bs : List ℕ). bs ++ left_of t true table row) (sym is)

-- a further row
pub row_goes : (rows : Rows) (i : ℕ) (all so_far now : List ℕ) → i < length rows
    → all ≡ so_far ++ table_bytes (drop i rows) → now ≡ so_far ++ row_bytes (get_or rows i [])
    → all ≡ now ++ table_bytes (drop (i + 1) rows)
unfolding parts_bytes
row_goes rows i all so_far now inside before is =
    before
    ∙ ap (λ (left : Rows). so_far ++ table_bytes left) (drop_more rows i [] inside)
    ∙ sym (append_assoc so_far (row_bytes (get_or rows i [])) (table_bytes (drop (i + 1) rows)))
    ∙ ap (λ (bs : List ℕ). bs ++ table_bytes (drop (i + 1) rows)) (sym is)

-- all rows of tables
all_rows : (t : Trace) (names : List TableName) → parts_bytes (λ other. table_bytes (rows_of t other)) names ≡ rows_left t names 0
unfolding rows_left parts_bytes
all_rows t [] = refl
all_rows t (name ∷ names) = refl

module _ (t : Trace) (names : List TableName) (name : TableName) (row : ℕ) where
  -- no row of the first table is left
  past : length (rows_of t name) ≤ row → rows_left t (name ∷ names) row ≡ rows_left t names 0
  unfolding rows_left parts_bytes
  past none =
      ap (λ (rows : Rows). table_bytes rows ++ parts_bytes (λ other. table_bytes (rows_of t other)) names) (drop_all row (rows_of t name) none)
      ∙ all_rows t names

  -- rows of it were given
  here : (next : ℕ) (piece : List ℕ) → table_bytes (drop row (rows_of t name)) ≡ piece ++ table_bytes (drop next (rows_of t name))
      → rows_left t (name ∷ names) row ≡ piece ++ rows_left t (name ∷ names) next
  unfolding rows_left
  here next piece is =
      ap (λ (bs : List ℕ). bs ++ parts_bytes (λ other. table_bytes (rows_of t other)) names) is
      ∙ append_assoc piece (table_bytes (drop next (rows_of t name))) (parts_bytes (λ other. table_bytes (rows_of t other)) names)

module _ (t : Trace) (k row : ℕ) where
  abbrev others : List TableName
  others = drop (k + 1) every_table

  pub table_past : k < 7 → length (rows_of t (name_at k)) ≤ row → left_of t true k row ≡ left_of t true (k + 1) 0
  unfolding left_of
  table_past h none = ap (λ (names : List TableName). rows_left t names row) (tables_at k h) ∙ past t others (name_at k) row none

  pub table_goes : k < 7 → (next : ℕ) (piece : List ℕ)
      → table_bytes (drop row (rows_of t (name_at k))) ≡ piece ++ table_bytes (drop next (rows_of t (name_at k)))
      → left_of t true k row ≡ piece ++ left_of t true k next
  unfolding left_of
  table_goes h next piece is =
      ap (λ (names : List TableName). rows_left t names row) (tables_at k h) ∙ here t others (name_at k) row next piece is
      ∙ ap (λ (names : List TableName). piece ++ rows_left t names next) (sym (tables_at k h))

  pub none_left : 7 ≤ k → left_of t true k row ≡ []
  unfolding left_of rows_left
  none_left past = ap (λ (names : List TableName). rows_left t names row) (drop_all k every_table past)
