-- Entries 115 to 139 of the main table: how the stack moves, and what the operations without limbs leave on it.
use Rattle.std.specs.Prelude.{ℕ, ◌+◌, ◌-◌, Bool, true, false, ◌==◌, ◌&&◌, nat_lt, if◌then◌else◌, List, [], ◌∷◌, ◌++◌, slice_index}
use Rattle.vm_field.specs.Signs.{◌⊞◌, ◌⊟◌, ◌⊠◌}
use Rattle.vm_ops.specs.Moves.{takes_of, leaves_of}
use Rattle.vm_ops.specs.Step.{left_cells}
use Rattle.vm_ops.specs.Values.{Seen}
use Rattle.vm_ops.specs.declared.op.Op.{Op}
use Rattle.vm_ops.specs.declared.op.Op.TheVariants as ops
use Rattle.vm_table.specs.MainColumns.{clk, fmp, sys, f, h, s, depth, key, inv, w}
use Rattle.air_kit.specs.Flags.{Flags, sum_over, flags_of, is_op, is_left, is_right}
use Rattle.air_kit.specs.Places.{RowEntry, PairEntry, Spot, on_row, on_pair, family}
use Rattle.air_kit.specs.BlockValues.{calls, returns}

-- the sixteen cells that a row shows
unfoldable pub cells : List ℕ → List ℕ
cells x =
    s x 0 ∷ s x 1 ∷ s x 2 ∷ s x 3 ∷ s x 4 ∷ s x 5 ∷ s x 6 ∷ s x 7 ∷ s x 8 ∷ s x 9 ∷ s x 10 ∷ s x 11 ∷ s x 12 ∷ s x 13
    ∷ s x 14 ∷ s x 15 ∷ []

-- the digest of the function that runs
unfoldable pub function_digest : List ℕ → List ℕ
function_digest x = f x 0 ∷ f x 1 ∷ f x 2 ∷ f x 3 ∷ []

-- What an operation reads of a row. The immediate, the tape, the word of memory and the permutation are not in it.
unfoldable pub seen_of : List ℕ → Seen
seen_of x = record {
  constants = [];
  immediate = 0;
  advice = [];
  word = [];
  clock = clk x;
  fmp = fmp x;
  in_syscall = sys x == 1;
  digest = function_digest x;
  depth = depth x;
  cells = cells x;
}

-- 1 where the stack is deeper than sixteen cells, else 0
unfoldable pub deeper : List ℕ → ℕ
deeper x = (depth x ⊟ 16) ⊠ inv x

-- the stack has one cell fewer behind the row
unfoldable pub shifts_left : RowEntry
shifts_left fl x = flags_of is_left fl ⊞ fl ops.End ⊠ h x 4

-- it has one more
unfoldable pub shifts_right : Flags → ℕ
shifts_right fl = flags_of is_right fl

-- it has as many
unfoldable pub keeps_depth : RowEntry
keeps_depth fl x = 1 ⊟ shifts_right fl ⊟ shifts_left fl x ⊟ calls fl ⊟ returns fl x

-- the operations whose values other entries or buses fix, or the tape
abbrev pub is_free : Op → Bool
is_free ops.Push = true
is_free ops.AdvPop = true
is_free ops.AdvPopW = true
is_free ops.MLoad = true
is_free ops.MLoadW = true
is_free ops.HPerm = true
is_free ops.U32And = true
is_free ops.U32Xor = true
is_free ops.U32Split = true
is_free ops.U32Add = true
is_free ops.U32Sub = true
is_free ops.U32Mul = true
is_free ops.U32Div = true
is_free ops.U32Add3 = true
is_free ops.U32MAdd = true
is_free op = false

-- the cell that the operation leaves at a place, as the machine computes it from the row
unfoldable pub left_value : Op → ℕ → List ℕ → ℕ
left_value op j x = slice_index (left_cells op (seen_of x)) j

-- b where the condition is 1, a where it is 0
abbrev pub chosen : ℕ → ℕ → ℕ → ℕ
chosen condition a b = a ⊞ condition ⊠ (b ⊟ a)

abbrev pub chosen_not : ℕ → ℕ → ℕ → ℕ
chosen_not condition a b = b ⊟ condition ⊠ (b ⊟ a)

-- the words of a conditional exchange of words: from place 0 on the one that is chosen, from place 4 on the other one
abbrev pub word_term : ℕ → List ℕ → List ℕ → ℕ
word_term j x y =
    if nat_lt j 4 then s y j ⊟ chosen (s x 0) (s x (j + 1)) (s x (j + 5))
    else s y j ⊟ chosen_not (s x 0) (s x (j - 3)) (s x (j + 1))

-- the cells of a conditional exchange
abbrev pub cell_term : ℕ → List ℕ → List ℕ → ℕ
cell_term j x y =
    if j == 0 then s y 0 ⊟ chosen (s x 0) (s x 1) (s x 2) else s y 1 ⊟ chosen_not (s x 0) (s x 1) (s x 2)

-- The value of a cell that the operation leaves on top. Equality is shown by an inverse, the inverse by the product.
unfoldable pub top_term : ℕ → List ℕ → List ℕ → Op → ℕ
top_term j x y ops.Eqz = s y 0 ⊟ 1 ⊞ s x 0 ⊠ w x 0
top_term j x y ops.Eq = s y 0 ⊟ 1 ⊞ (s x 0 ⊟ s x 1) ⊠ w x 0
top_term j x y ops.Inv = s x 0 ⊠ s y 0 ⊟ 1
top_term j x y ops.CSwap = cell_term j x y
top_term j x y ops.CSwapW = word_term j x y
top_term j x y op = if is_free op then 0 else s y j ⊟ left_value op j x

-- The value of a cell below those: it is the one that the shift brings there. At depth sixteen a left shift leaves the last
-- cell to the bus of cells that come back, or to 0.
unfoldable pub below_term : ℕ → List ℕ → List ℕ → Op → ℕ
below_term j x y op =
    if is_left op && (j == 15) then (1 ⊟ deeper x) ⊠ s y 15 else s y j ⊟ s x (j + takes_of op - leaves_of op)

-- an END keeps the stack, or takes a loop's condition off
unfoldable pub end_term : ℕ → List ℕ → List ℕ → ℕ
end_term j x y = (1 ⊟ h x 4) ⊠ below_term j x y ops.End ⊞ h x 4 ⊠ below_term j x y ops.Drop

-- the value of cell j under an operation
unfoldable pub term : ℕ → List ℕ → List ℕ → Op → ℕ
term j x y op =
    if is_op op ops.End then end_term j x y
    else if nat_lt j (leaves_of op) then top_term j x y op else below_term j x y op

-- at depth sixteen the flag is 0, deeper it is 1
unfoldable pub entry_115 : RowEntry
entry_115 fl x = (depth x ⊟ 16) ⊠ (1 ⊟ deeper x)

-- the depth
unfoldable pub entry_116 : PairEntry
entry_116 fl gl x y =
    shifts_right fl ⊠ (depth y ⊟ depth x ⊟ 1) ⊞ shifts_left fl x ⊠ (depth y ⊟ depth x ⊞ deeper x)
    ⊞ calls fl ⊠ (depth y ⊟ 16) ⊞ keeps_depth fl x ⊠ (depth y ⊟ depth x)

-- a call ends at depth sixteen
unfoldable pub entry_117 : RowEntry
entry_117 fl x = returns fl x ⊠ (depth x ⊟ 16)

-- the key of the first cell below the sixteenth
unfoldable pub entry_118 : PairEntry
entry_118 fl gl x y =
    shifts_right fl ⊠ (key y ⊟ clk x) ⊞ shifts_left fl x ⊠ (1 ⊟ deeper x) ⊠ (key y ⊟ key x) ⊞ calls fl ⊠ key y
    ⊞ keeps_depth fl x ⊠ (key y ⊟ key x)

-- 119 to 134: cell j
unfoldable pub entry_119 : ℕ → PairEntry
entry_119 j fl gl x y = sum_over fl (term j x y)

-- EQZ and EQ leave 0 where the cells differ
unfoldable pub entry_135 : PairEntry
entry_135 fl gl x y = fl ops.Eqz ⊠ s x 0 ⊠ s y 0

unfoldable pub entry_136 : PairEntry
entry_136 fl gl x y = fl ops.Eq ⊠ (s x 0 ⊟ s x 1) ⊠ s y 0

-- operands that must be 0 or 1
unfoldable pub entry_137 : RowEntry
entry_137 fl x = (fl ops.Not ⊞ fl ops.And ⊞ fl ops.Or ⊞ fl ops.CSwap ⊞ fl ops.CSwapW) ⊠ s x 0 ⊠ (s x 0 ⊟ 1)

unfoldable pub entry_138 : RowEntry
entry_138 fl x = (fl ops.And ⊞ fl ops.Or) ⊠ s x 1 ⊠ (s x 1 ⊟ 1)

-- what is asserted is 1
unfoldable pub entry_139 : RowEntry
entry_139 fl x = fl ops.Assert ⊠ (s x 0 ⊟ 1)

-- 115 to 118
unfoldable pub depth_values : Spot → List ℕ
depth_values p = on_row entry_115 p ∷ on_pair entry_116 p ∷ on_row entry_117 p ∷ on_pair entry_118 p ∷ []

-- 119 to 134
unfoldable pub cell_values : Spot → List ℕ
cell_values p = family 16 (λ j. on_pair (entry_119 j) p)

-- 135 to 139
unfoldable pub operand_values : Spot → List ℕ
operand_values p =
    on_pair entry_135 p ∷ on_pair entry_136 p ∷ on_row entry_137 p ∷ on_row entry_138 p ∷ on_row entry_139 p ∷ []

unfoldable pub stack_values : Spot → List ℕ
stack_values p = depth_values p ++ (cell_values p ++ operand_values p)
