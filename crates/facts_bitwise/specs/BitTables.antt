-- Bitwise tables whose entries are 0, what they show, and what a tuple that they give means.
use Rattle.std.specs.Prelude.{◌≡◌, ℕ, ◌*◌, ◌%◌, ◌^◌, ◌<◌, List, length, map, All, bit_and, bit_xor}
use Rattle.vm_table.specs.Layout.{IsTable}
use Rattle.buses.specs.Counts.{counted, over_rows}
use Rattle.buses.specs.declared.bus.Bus.TheVariants as bus
use Rattle.air_kit.specs.declared.requests.BitOp.{BitOp}
use Rattle.air_kit.specs.declared.trace.TableName.TheVariants as table
use Rattle.air_kit.specs.BitwiseValues.{bitwise_values}
use Rattle.air_kit.specs.ChipTuples.{chip_given}
use Rattle.air_kit.specs.Places.{at_number}
use Rattle.air_kit.specs.Requests.{bit_given}
use Rattle.air_kit.specs.Traces.{spot_of}
use Rattle.facts_bitwise.specs.BitRows.{rows_of_bits, ops_in}

-- each entry is 0 in each row
pub record BitwiseIsZero (rows : List (List ℕ)) : Type 0 where
  pub table : IsTable 12 rows
  pub whole : length rows % 8 ≡ 0
  pub zero : (i number : ℕ) → i < length rows → at_number (bitwise_values (spot_of rows i)) number ≡ 0

-- the operands have 32 bits
abbrev pub HasWords : BitOp → Type 0
HasWords p = (p.a < 2 ^ 32) × (p.b < 2 ^ 32)

abbrev pub HaveWords : List BitOp → Type 0
HaveWords ops = All HasWords ops

-- how often rows give a tuple on the bitwise bus
abbrev pub given_in : List (List ℕ) → List ℕ → ℕ
given_in rows = over_rows (chip_given bus.Bitwise table.Bitwise) rows

-- the rows are those of the operations that they show
pub record AreOpRows (rows : List (List ℕ)) : Type 0 where
  pub words : HaveWords (ops_in rows)
  pub rows_are : rows ≡ rows_of_bits (ops_in rows)

-- rows that show these operations and no more, and whose entries are 0
pub record ShowsOps (ops : List BitOp) (rows : List (List ℕ)) : Type 0 where
  pub size : length rows ≡ 8 * length ops
  pub zero : BitwiseIsZero rows
  pub ops_are : ops_in rows ≡ ops

-- on the bitwise bus the rows give what the operations give
abbrev pub GivesOps : List BitOp → List (List ℕ) → Type 0
GivesOps ops rows = (u : List ℕ) → given_in rows u ≡ counted (map bit_given ops) u

-- operands of 32 bits and their result, which is their and where the kind is 0, and their exclusive or where it is 1
pub record IsBitwise (kind u v w : ℕ) : Type 0 where
  pub kind_bit : kind < 2
  pub first : u < 2 ^ 32
  pub second : v < 2 ^ 32
  pub conjunction : kind ≡ 0 → w ≡ bit_and u v
  pub difference : kind ≡ 1 → w ≡ bit_xor u v
