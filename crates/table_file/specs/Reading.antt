-- A table file that is read from its front, however it is cut: what was read, and what is still to come.
use Rattle.std.specs.Prelude.{◌≡◌, ◌⊎◌, ℕ, ◌+◌, ◌*◌, ◌^◌, ◌<◌, ◌≤◌, List, [], ◌++◌, drop, take, map, length, slice_get, slice_index_or, sum, unwrap_or, Option, Some, None, Result, Ok, Err, IfSome}
use Rattle.air_kit.specs.Tables.{columns, every_table}
use Rattle.air_kit.specs.declared.trace.Trace.{Trace}
use Rattle.table_file.specs.declared.cause.FileError.{FileError}
use Rattle.table_file.specs.declared.part_trace.PartTrace.{PartTrace}
use Rattle.table_file.specs.Fields.{GivesRead, behind, rows_at}
use Rattle.table_file.specs.Files.{tables_from, trace_of}

-- these bytes stand at a place
abbrev pub StandsAt : List ℕ → ℕ → List ℕ → Type 0
StandsAt all at part = (rest : List ℕ) × (drop at all ≡ part ++ rest)

-- what bytes read as, of which a front was read so far
abbrev pub rest_of : List ℕ → PartTrace → Result Trace FileError
rest_of all p = tables_from all (drop p.table every_table) (drop p.table p.left) p.at p.trace

-- how many bytes a row of each table has
abbrev pub row_sizes : List ℕ
row_sizes = map (λ name. 8 * columns name) every_table

-- how many bytes the next row has; behind the last row one is wanted, which may not come
abbrev pub next_row : PartTrace → ℕ
next_row p = unwrap_or (slice_get row_sizes p.table) 1

-- places stay small
abbrev pub PlacesAreSmall : PartTrace → Type 0
PlacesAreSmall p = p.at + 520 * sum (drop p.table p.left) ≤ 2 ^ 35

-- a row of the table that is read is still to come, where there is such a table
pub record IsReady (p : PartTrace) : Type 0 where
  pub each : length p.left ≡ 7
  pub small : PlacesAreSmall p
  pub some : p.table < 7 → 1 ≤ slice_index_or p.left p.table 0

-- From bytes at a place some rows were read behind those of a table, of which so many were to come: so many bytes were used.
pub record ReadsRows (width at : ℕ) (bytes : List ℕ) (before after : ℕ) (old new : List (List ℕ)) (count : ℕ) : Type 0 where
  pub within : count ≤ length bytes
  pub place : 8 * width * before ≡ count + 8 * width * after
  pub some : ((count ≡ 0) × (before ≡ after)) ⊎ (8 * width ≤ count)
  pub rows : List (List ℕ)
  pub table : new ≡ old ++ rows
  pub goes : (all : List ℕ) → StandsAt all at (take count bytes)
      → behind (rows_at all width after (at + count)) (λ rest. Ok (rows ++ rest)) ≡ rows_at all width before at

-- The front of bytes was read, one row at least: so many bytes were used.
pub record Advances (old new : PartTrace) (bytes : List ℕ) (count : ℕ) : Type 0 where
  pub some : next_row old ≤ count
  pub within : count ≤ length bytes
  pub place : new.at ≡ old.at + count
  pub ready : IsReady new
  pub goes : (all : List ℕ) → StandsAt all old.at (take count bytes) → rest_of all old ≡ rest_of all new

-- a reader of a table file
pub record Reader : Type 0 where
  pub carried : List ℕ  -- the front of a head or of a row that is not whole yet
  pub part : Option PartTrace  -- none before the head is whole
  pub stop : Option FileError  -- why no trace comes

-- how many bytes the head or the next row has
abbrev pub wanted : Option PartTrace → ℕ
wanted None = 36
wanted (Some p) = next_row p

-- these bytes were read, and the file's reading goes on behind them
abbrev pub ReadsBehind : Option PartTrace → List ℕ → Type 0
ReadsBehind None done = done ≡ []
ReadsBehind (Some p) done = (length done ≡ p.at) × ((more : List ℕ) → trace_of (done ++ more) ≡ rest_of (done ++ more) p)

-- From a front of bytes the head or rows were read: so many bytes were used.
pub record GoesFurther (old new : Option PartTrace) (bytes : List ℕ) (count : ℕ) : Type 0 where
  pub some : wanted old ≤ count
  pub within : count ≤ length bytes
  pub ready : IfSome new IsReady
  pub goes : (done : List ℕ) → ReadsBehind old done → ReadsBehind new (done ++ take count bytes)

-- these bytes were read, and the file's reading goes on behind them or has stopped within them
abbrev pub HasRead : Option FileError → Option PartTrace → List ℕ → Type 0
HasRead None part done = ReadsBehind part done
HasRead (Some e) part done = (more : List ℕ) → GivesRead {A = Trace} (Err e) (trace_of (done ++ more))

-- a reader that took these bytes
pub record HasTaken (r : Reader) (bytes : List ℕ) : Type 0 where
  pub done : List ℕ
  pub parts : bytes ≡ done ++ r.carried
  pub read : HasRead r.stop r.part done

-- so many bytes are missing of what is carried, and none where nothing is
abbrev pub IsMissing : Reader → ℕ → Type 0
IsMissing r count = ((r.carried ≡ []) × (count ≡ 0)) ⊎ ((1 ≤ length r.carried) × (length r.carried + count ≡ wanted r.part))
