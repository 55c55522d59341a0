-- Tables by name and by place.
use Rattle.table_file.proofs.Words.{◌≡◌, ℕ, suc, ◌+◌, ◌*◌, ◌<◌, ◌≤◌, List, [], ◌∷◌, ◌++◌, drop, get_or, length, map, Option, slice_get, unwrap_or, refl, ap}
use Rattle.table_file.proofs.Words.{◌∙◌, arith, drop-cons, get_or-map, columns, every_table, rows_of, TableName, Trace, no_rows, with_rows, row_sizes}
use Rattle.std.proofs.lemmas.Option.{slice_get_past, unwrap_or-slice_get}
use Rattle.air_kit.specs.declared.trace.TableName.TheVariants as table

abbrev pub Rows : Type 0
Rows = List (List ℕ)

-- the table at a place of their order
abbrev pub name_at : ℕ → TableName
name_at k = get_or every_table k table.Main

pub tables_at : (k : ℕ) → k < 7 → drop k every_table ≡ name_at k ∷ drop (k + 1) every_table
tables_at k h = let next : suc k ≡ k + 1 = omega arith in drop-cons every_table k table.Main h ∙ ap (λ (n : ℕ). name_at k ∷ drop n every_table) next

-- the size of a row of it, and what is wanted behind the last table
pub size_at : (k : ℕ) → k < 7 → unwrap_or (slice_get row_sizes k) 1 ≡ 8 * columns (name_at k)
size_at k h =
    unwrap_or-slice_get row_sizes k 1 ∙ get_or-map (λ name. 8 * columns name) every_table k table.Main 1 h

pub size_past : (k : ℕ) → 7 ≤ k → unwrap_or (slice_get row_sizes k) 1 ≡ 1
size_past k past = ap (λ (size : Option ℕ). unwrap_or size 1) (slice_get_past row_sizes k past)

-- what each table has, table by table
abbrev pub Each : {A : Type 0} → (TableName → A → Type 0) → List TableName → List A → Type 0
Each P [] xs = Unit {0}
Each P (name ∷ names) [] = Unit {0}
Each P (name ∷ names) (x ∷ xs) = P name x × Each P names xs

pub by_name : {A : Type 0} (P : TableName → A → Type 0) (f : TableName → A) → Each P every_table (map f every_table) → (name : TableName) → P name (f name)
by_name P f h table.Main = h.0
by_name P f h table.Range = h.1.0
by_name P f h table.Hasher = h.1.1.0
by_name P f h table.Bitwise = h.1.1.1.0
by_name P f h table.Memory = h.1.1.1.1.0
by_name P f h table.Kernel = h.1.1.1.1.1.0
by_name P f h table.Left = h.1.1.1.1.1.1.0

-- rows that are put to a table twice, one after the other
pub rows_behind : (rows more : Rows) (t : Trace) (name : TableName)
    → with_rows name (rows_of (with_rows name rows t) name ++ more) (with_rows name rows t) ≡ with_rows name (rows ++ more) t
rows_behind rows more t table.Main = refl
rows_behind rows more t table.Range = refl
rows_behind rows more t table.Hasher = refl
rows_behind rows more t table.Bitwise = refl
rows_behind rows more t table.Memory = refl
rows_behind rows more t table.Kernel = refl
rows_behind rows more t table.Left = refl

pub rows_same : (t : Trace) (name : TableName) → with_rows name (rows_of t name) t ≡ t
rows_same t table.Main = refl
rows_same t table.Range = refl
rows_same t table.Hasher = refl
rows_same t table.Bitwise = refl
rows_same t table.Memory = refl
rows_same t table.Kernel = refl
rows_same t table.Left = refl

-- tables, put one after the other behind the rows of a trace
abbrev pub put : List TableName → List Rows → Trace → Trace
put [] ts t = t
put (name ∷ names) [] t = t
put (name ∷ names) (rows ∷ ts) t = put names ts (with_rows name (rows_of t name ++ rows) t)

pub put_all : (ts : List Rows) → length ts ≡ 7 → map (rows_of (put every_table ts no_rows)) every_table ≡ ts
put_all (a ∷ b ∷ c ∷ d ∷ e ∷ f ∷ g ∷ []) h = refl
put_all _ h = absurd (omega (arith, h))
