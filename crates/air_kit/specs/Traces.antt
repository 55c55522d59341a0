-- A trace: the rows of its tables, how many each may have, and the values of all entries.
use Rattle.std.specs.Prelude.{◌≡◌, ℕ, suc, ◌^◌, ◌≤◌, ◌%◌, List, [], length, map, slice_get, slice_index_or}
use Rattle.vm_field.specs.Limits.{most_kernel}
use Rattle.chip_columns.specs.LeftColumns.{key}
use Rattle.rpo_hash.specs.Constants.{constants_of}
use Rattle.air_kit.specs.declared.trace.Public.{Public}
use Rattle.air_kit.specs.declared.trace.TableName.{TableName}
use Rattle.air_kit.specs.declared.trace.TableName.TheVariants as table
use Rattle.air_kit.specs.declared.trace.Trace.{Trace}
use Rattle.air_kit.specs.Places.{Claim, Spot, at_number}
use Rattle.air_kit.specs.Tables.{every_table}
use Rattle.air_kit.specs.MainValues.{main_values}
use Rattle.air_kit.specs.RangeValues.{range_values}
use Rattle.air_kit.specs.HasherValues.{hasher_values}
use Rattle.air_kit.specs.BitwiseValues.{bitwise_values}
use Rattle.air_kit.specs.MemoryValues.{memory_values}
use Rattle.air_kit.specs.KernelValues.{kernel_values}

-- the rows of a table
abbrev pub rows_of : Trace → TableName → List (List ℕ)
rows_of t table.Main = t.main
rows_of t table.Range = t.range
rows_of t table.Hasher = t.hasher
rows_of t table.Bitwise = t.bitwise
rows_of t table.Memory = t.memory
rows_of t table.Kernel = t.kernel
rows_of t table.Left = t.left

-- how many rows each table has, in their order
abbrev pub lengths_of : Trace → List ℕ
lengths_of t = map (λ name. length (rows_of t name)) every_table

-- how many rows a table has at least
abbrev pub least_rows : TableName → ℕ
least_rows table.Main = 1
least_rows table.Range = 1
least_rows table.Hasher = 0
least_rows table.Bitwise = 0
least_rows table.Memory = 0
least_rows table.Kernel = 0
least_rows table.Left = 0

-- how many it has at most
abbrev pub most_rows : TableName → ℕ
most_rows table.Main = 2 ^ 19
most_rows table.Range = 2 ^ 17
most_rows table.Hasher = 2 ^ 22
most_rows table.Bitwise = 2 ^ 22
most_rows table.Memory = 2 ^ 19
most_rows table.Kernel = most_kernel
most_rows table.Left = 2 ^ 20

-- by how many rows it grows at once
abbrev pub rows_at_once : TableName → ℕ
rows_at_once table.Main = 1
rows_at_once table.Range = 1
rows_at_once table.Hasher = 8
rows_at_once table.Bitwise = 8
rows_at_once table.Memory = 1
rows_at_once table.Kernel = 1
rows_at_once table.Left = 1

-- a table may have so many rows
pub record IsCount (name : TableName) (n : ℕ) : Type 0 where
  pub least : least_rows name ≤ n
  pub most : n ≤ most_rows name
  pub whole : n % rows_at_once name ≡ 0

-- each table has as many rows as it may
abbrev pub HasCounts : Trace → Type 0
HasCounts t = (name : TableName) → IsCount name (length (rows_of t name))

-- what stands beside the rows
abbrev pub claim_of : Public → Trace → Claim
claim_of p t = record {
  constants = constants_of p.params;
  digest = p.statement.digest;
  kernel = p.statement.kernel;
  inputs = p.statement.inputs;
  outputs = p.statement.outputs;
  lengths = lengths_of t;
  left_key = key (slice_index_or t.left 0 []);
}

-- row i of a table, in its place
abbrev pub spot_of : List (List ℕ) → ℕ → Spot
spot_of rows i = record { row = i; cur = slice_index_or rows i []; next = slice_get rows (suc i) }

-- the values of a table's entries at a place, in the order of their numbers; the table of cells left has none
abbrev pub values_by : TableName → Claim → Spot → List ℕ
values_by table.Main c p = main_values c p
values_by table.Range c p = range_values p
values_by table.Hasher c p = hasher_values c p
values_by table.Bitwise c p = bitwise_values p
values_by table.Memory c p = memory_values p
values_by table.Kernel c p = kernel_values c p
values_by table.Left c p = []

abbrev pub values_at : Claim → Trace → TableName → ℕ → List ℕ
values_at c t name i = values_by name c (spot_of (rows_of t name) i)

-- the value of an entry at a row
abbrev pub value_at : Claim → Trace → TableName → ℕ → ℕ → ℕ
value_at c t name i number = at_number (values_at c t name i) number
