-- The rows of the bitwise table as the operations that they show: eight rows each, the operands' highest four bits first.
use Rattle.std.specs.Prelude.{ℕ, ◌/◌, ◌%◌, ◌^◌, Bool, ◌==◌, if◌then◌else◌, List, [], ◌∷◌, bit_and, bit_xor}
use Rattle.vm_ops.specs.Values.{bit_of}
use Rattle.chip_columns.specs.BitwiseColumns.{op, a, b}
use Rattle.air_kit.specs.declared.requests.BitOp.{BitOp}

-- the exclusive or of two numbers, or their and
abbrev pub bitwise : Bool → ℕ → ℕ → ℕ
bitwise xor u v = if xor then bit_xor u v else bit_and u v

-- the row of two numbers: they themselves, the four lowest bits of each, and their result
unfoldable pub bit_row : Bool → ℕ → ℕ → List ℕ
bit_row xor u v =
    bit_of xor ∷ u ∷ v ∷ u % 2 ∷ u / 2 % 2 ∷ u / 4 % 2 ∷ u / 8 % 2 ∷ v % 2 ∷ v / 2 % 2 ∷ v / 4 % 2 ∷ v / 8 % 2
    ∷ bitwise xor u v ∷ []

-- the row of an operation's operands but for so many of their lowest bits
unfoldable pub row_without : ℕ → BitOp → List ℕ
row_without n p = bit_row p.xor (p.a / 2 ^ n) (p.b / 2 ^ n)

-- the eight rows of an operation, and further rows
unfoldable pub rows_before : BitOp → List (List ℕ) → List (List ℕ)
rows_before p rows =
    row_without 28 p ∷ row_without 24 p ∷ row_without 20 p ∷ row_without 16 p ∷ row_without 12 p ∷ row_without 8 p
    ∷ row_without 4 p ∷ bit_row p.xor p.a p.b ∷ rows

-- the rows of operations, one behind the other
unfoldable pub rows_of_bits : List BitOp → List (List ℕ)
rows_of_bits [] = []
rows_of_bits (p ∷ ops) = rows_before p (rows_of_bits ops)

-- the operation that the last of eight rows shows
unfoldable pub bit_op_of : List ℕ → BitOp
bit_op_of last = record { xor = op last == 1; a = a last; b = b last }

-- the operations that rows show
unfoldable pub ops_in : List (List ℕ) → List BitOp
ops_in (r0 ∷ r1 ∷ r2 ∷ r3 ∷ r4 ∷ r5 ∷ r6 ∷ r7 ∷ rows) = bit_op_of r7 ∷ ops_in rows
ops_in rows = []
