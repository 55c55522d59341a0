-- Entries 11 to 59 of the main table: its first row shows the start of a run from the inputs, its last one the end with the
-- outputs. Inputs that the statement lacks count as 0, and so do outputs.
use Rattle.std.specs.Prelude.{ℕ, ◌^◌, List, [], ◌∷◌, ◌++◌, length, slice_index}
use Rattle.vm_field.specs.Signs.{◌⊟◌}
use Rattle.vm_ops.specs.Codes.{is_start_op}
use Rattle.vm_ops.specs.declared.op.Op.TheVariants as ops
use Rattle.vm_table.specs.MainColumns.{addr, ctx, fmp, sys, f, lv, depth, key, s}
use Rattle.air_kit.specs.DeepCells.{depth_at_start, key_at_start}
use Rattle.air_kit.specs.Flags.{flags_of}
use Rattle.air_kit.specs.Places.{Claim, RowEntry, Spot, at_first, at_last, family}
use Rattle.air_kit.specs.Tables.{table_number}
use Rattle.air_kit.specs.declared.trace.TableName.{TableName}
use Rattle.air_kit.specs.declared.trace.TableName.TheVariants as table

-- how many rows a table has
abbrev pub rows_in : Claim → TableName → ℕ
rows_in c name = slice_index c.lengths (table_number name)

-- the first row starts a block
unfoldable pub entry_11 : RowEntry
entry_11 fl x = 1 ⊟ flags_of is_start_op fl

-- no block is open, the context is 0, the frame pointer 2^30, no syscall runs
unfoldable pub entry_12 : RowEntry
entry_12 fl x = addr x

unfoldable pub entry_13 : RowEntry
entry_13 fl x = ctx x

unfoldable pub entry_14 : RowEntry
entry_14 fl x = fmp x ⊟ 2 ^ 30

unfoldable pub entry_15 : RowEntry
entry_15 fl x = sys x

-- 16 to 19: the digest of the function that runs is zero
unfoldable pub entry_16 : ℕ → RowEntry
entry_16 j fl x = f x j

-- nothing was started
unfoldable pub entry_20 : RowEntry
entry_20 fl x = lv x

-- the stack is as deep as it is at the start, with the same newest cell below the sixteenth
unfoldable pub entry_21 : Claim → RowEntry
entry_21 c fl x = depth x ⊟ depth_at_start c

unfoldable pub entry_22 : Claim → RowEntry
entry_22 c fl x = key x ⊟ key_at_start c

-- 23 to 38: cell j is input j
unfoldable pub entry_23 : Claim → ℕ → RowEntry
entry_23 c j fl x = s x j ⊟ slice_index c.inputs j

-- the kernel's table has a row for each digest of the kernel
unfoldable pub entry_39 : Claim → RowEntry
entry_39 c fl x = rows_in c table.Kernel ⊟ length c.kernel

-- the table of cells left has a row for each output below the sixteenth
unfoldable pub entry_40 : Claim → RowEntry
entry_40 c fl x = rows_in c table.Left ⊟ (length c.outputs ⊟ 16)

-- the last row is HALT
unfoldable pub entry_41 : RowEntry
entry_41 fl x = 1 ⊟ fl ops.Halt

-- the stack is as deep as there are outputs
unfoldable pub entry_42 : Claim → RowEntry
entry_42 c fl x = depth x ⊟ length c.outputs

-- the first cell below the sixteenth is the first of those left
unfoldable pub entry_43 : Claim → RowEntry
entry_43 c fl x = key x ⊟ c.left_key

-- 44 to 59: cell j is output j
unfoldable pub entry_44 : Claim → ℕ → RowEntry
entry_44 c j fl x = s x j ⊟ slice_index c.outputs j

unfoldable pub start_values : Claim → Spot → List ℕ
start_values c p =
    at_first entry_11 p ∷ at_first entry_12 p ∷ at_first entry_13 p ∷ at_first entry_14 p ∷ at_first entry_15 p
    ∷ (family 4 (λ j. at_first (entry_16 j) p) ++ (at_first entry_20 p ∷ at_first (entry_21 c) p ∷ at_first (entry_22 c) p ∷ []))

unfoldable pub inputs_values : Claim → Spot → List ℕ
inputs_values c p = family 16 (λ j. at_first (entry_23 c j) p)

unfoldable pub end_values : Claim → Spot → List ℕ
end_values c p =
    at_first (entry_39 c) p ∷ at_first (entry_40 c) p ∷ at_last entry_41 p ∷ at_last (entry_42 c) p ∷ at_last (entry_43 c) p
    ∷ []

unfoldable pub outputs_values : Claim → Spot → List ℕ
outputs_values c p = family 16 (λ j. at_last (entry_44 c j) p)

unfoldable pub boundary_values : Claim → Spot → List ℕ
boundary_values c p = start_values c p ++ (inputs_values c p ++ (end_values c p ++ outputs_values c p))
