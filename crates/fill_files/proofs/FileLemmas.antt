-- The tables of a trace have their columns, and the file of a trace is no longer than a table file may be.
use Rattle.std.proofs.Common.{◌≡◌, ℕ, suc, ◌+◌, ◌*◌, ◌≤◌, List, [], ◌∷◌, ◌++◌, length, ◌∙◌, ap, ap₂, refl, arith}
use Rattle.std.proofs.lemmas.List.{length-append}
use Rattle.byteorder.specs.Endian.{little_bytes}
use Rattle.byteorder.specs.Numbers.{length-bytes_low_first}
use Rattle.vm_table.specs.Layout.{IsTable}
use Rattle.air_kit.specs.Tables.{columns, every_table, sum_over}
use Rattle.air_kit.specs.Traces.{HasCounts, lengths_of, rows_of}
use Rattle.air_kit.specs.declared.trace.TableName.{TableName}
use Rattle.air_kit.specs.declared.trace.TableName.TheVariants as table
use Rattle.air_kit.specs.declared.trace.Trace.{Trace}
use Rattle.table_file.specs.Fields.{parts_bytes, row_bytes, table_bytes}
use Rattle.table_file.specs.Files.{AreTables, bytes_in, bytes_of, head_bytes, this_version}
use Rattle.fill_files.specs.Inside.{IsShort}
use Rattle.fill_files.specs.RunFiles.{most_table_bytes}

pub are_tables : (t : Trace) → IsTable 65 t.main → IsTable 2 t.range → IsTable 15 t.hasher → IsTable 12 t.bitwise → IsTable 14 t.memory
    → IsTable 5 t.kernel → IsTable 1 t.left → AreTables t
are_tables t main range hasher bitwise memory kernel left table.Main = main
are_tables t main range hasher bitwise memory kernel left table.Range = range
are_tables t main range hasher bitwise memory kernel left table.Hasher = hasher
are_tables t main range hasher bitwise memory kernel left table.Bitwise = bitwise
are_tables t main range hasher bitwise memory kernel left table.Memory = memory
are_tables t main range hasher bitwise memory kernel left table.Kernel = kernel
are_tables t main range hasher bitwise memory kernel left table.Left = left

-- eight bytes for each element
row_size : (row : List ℕ) → length (row_bytes row) ≡ 8 * length row
unfolding parts_bytes
row_size [] = omega arith
row_size (x ∷ xs) =
    let one = length-bytes_low_first 0 8 x in
    let more = row_size xs in
    omega (arith, one, more, length-append (little_bytes 8 x) (row_bytes xs))

-- the rows behind the first one are of a table, too
behind_first : (width : ℕ) (row : List ℕ) (rows : List (List ℕ)) → IsTable width (row ∷ rows) → IsTable width rows
behind_first width row rows shape = record {
  wide = λ i within. shape.wide (suc i) (omega (arith, within));
  below = λ i k. shape.below (suc i) k;
}

table_size : (width : ℕ) (rows : List (List ℕ)) → IsTable width rows → length (table_bytes rows) ≡ 8 * width * length rows
unfolding parts_bytes
table_size width [] shape = omega arith
table_size width (row ∷ rows) shape =
    let one : length row ≡ width = shape.wide 0 (omega arith) in
    let more = table_size width rows (behind_first width row rows shape) in
    sized (length (row_bytes row ++ table_bytes rows)) (length (row_bytes row)) (length (table_bytes rows)) width (length rows)
    (length-append (row_bytes row) (table_bytes rows)) (row_size row ∙ ap (λ n. 8 * n) one) more
  where
    sized : (all first others width n : ℕ) → all ≡ first + others → first ≡ 8 * width → others ≡ 8 * width * n → all ≡ 8 * width * suc n
    sized all first others width n is one more = grind (arith, is, one, more)

-- the bytes of tables, together
sizes : (t : Trace) → AreTables t → (names : List TableName)
    → length (parts_bytes (λ name. table_bytes (rows_of t name)) names) ≡ sum_over names (λ name. 8 * columns name * length (rows_of t name))
unfolding parts_bytes
sizes t shapes [] = refl
sizes t shapes (name ∷ names) =
    length-append (table_bytes (rows_of t name)) (parts_bytes (λ other. table_bytes (rows_of t other)) names)
    ∙ ap₂ (λ (m n : ℕ). m + n) (table_size (columns name) (rows_of t name) (shapes name)) (sizes t shapes names)

head_size : (t : Trace) → length (head_bytes this_version (lengths_of t)) ≡ 36
unfolding head_bytes parts_bytes
head_size t = refl

pub short_file : (t : Trace) → HasCounts t → AreTables t → IsShort t → length (bytes_of t) ≤ most_table_bytes
unfolding bytes_in
short_file t counts shapes short =
    omega (
      arith,
      short,
      head_size t,
      sizes t shapes every_table,
      (counts table.Main).most,
      (counts table.Range).most,
      (counts table.Kernel).most,
      (counts table.Left).most,
      length-append (head_bytes this_version (lengths_of t)) (parts_bytes (λ name. table_bytes (rows_of t name)) every_table),
    )
