-- Entries 1 to 10 of the main table: the bits of the operation, and the clock.
use Rattle.std.specs.Prelude.{ℕ, List, [], ◌∷◌, ◌++◌}
use Rattle.vm_field.specs.Signs.{◌⊟◌, ◌⊠◌}
use Rattle.vm_ops.specs.Codes.{every_op}
use Rattle.vm_table.specs.MainColumns.{b, clk}
use Rattle.air_kit.specs.Flags.{sum_of}
use Rattle.air_kit.specs.Places.{RowEntry, PairEntry, Spot, on_row, on_pair, at_first, family}

-- 1 to 7: bit j is 0 or 1
unfoldable pub entry_1 : ℕ → RowEntry
entry_1 j fl x = b x j ⊠ (b x j ⊟ 1)

-- the bits spell an operation
unfoldable pub entry_8 : RowEntry
entry_8 fl x = 1 ⊟ sum_of every_op fl

-- the clock starts at 0
unfoldable pub entry_9 : RowEntry
entry_9 fl x = clk x

-- and grows by one
unfoldable pub entry_10 : PairEntry
entry_10 fl gl x y = clk y ⊟ clk x ⊟ 1

unfoldable pub opcode_values : Spot → List ℕ
opcode_values p =
    family 7 (λ j. on_row (entry_1 j) p) ++ (on_row entry_8 p ∷ at_first entry_9 p ∷ on_pair entry_10 p ∷ [])
