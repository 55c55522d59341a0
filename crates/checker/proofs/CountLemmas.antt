-- How many rows the tables have.
use Rattle.std.proofs.Common.{◌^◌, ◌≤◌, length, arith, lit≤}
use Rattle.air_kit.specs.declared.trace.TableName.{TableName}
use Rattle.air_kit.specs.declared.trace.TableName.TheVariants as table
use Rattle.air_kit.specs.declared.trace.Trace.{Trace}
use Rattle.air_kit.specs.Traces.{HasCounts, most_rows, rows_of}

most_few : (name : TableName) → most_rows name ≤ 2 ^ 22
most_few table.Main = lit≤ tt
most_few table.Range = lit≤ tt
most_few table.Hasher = lit≤ tt
most_few table.Bitwise = lit≤ tt
most_few table.Memory = lit≤ tt
most_few table.Kernel = lit≤ tt
most_few table.Left = lit≤ tt

-- no table has more than four million rows
pub rows_few : {t : Trace} → HasCounts t → (name : TableName) → length (rows_of t name) ≤ 2 ^ 22
rows_few counts name = let h = (counts name).most in let k = most_few name in omega (arith, h, k)
