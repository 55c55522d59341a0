-- How many rows a table may have, as a test.
use Rattle.std.specs.Prelude.{ℕ, ◌%◌, Bool, ◌==◌, ◌&&◌, nat_le}
use Rattle.air_kit.specs.Traces.{least_rows, most_rows, rows_at_once}
use Rattle.air_kit.specs.declared.trace.TableName.{TableName}

-- a table may have so many rows
unfoldable pub may_have : TableName → ℕ → Bool
may_have name count = nat_le (least_rows name) count && nat_le count (most_rows name) && (count % rows_at_once name == 0)
