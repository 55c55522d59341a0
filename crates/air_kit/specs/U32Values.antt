-- Entries 140 to 147 of the main table: numbers of 32 bits by limbs of 16 bits, which the range bus bounds.
use Rattle.std.specs.Prelude.{ℕ, ◌+◌, ◌-◌, ◌^◌, List, [], ◌∷◌}
use Rattle.vm_field.specs.Signs.{◌⊞◌, ◌⊟◌, ◌⊠◌}
use Rattle.vm_ops.specs.declared.op.Op.TheVariants as ops
use Rattle.vm_table.specs.MainColumns.{s, w, t}
use Rattle.air_kit.specs.Flags.{Flags}
use Rattle.air_kit.specs.Places.{RowEntry, PairEntry, Spot, on_row, on_pair}

-- the number of the limbs j and j + 1
unfoldable pub limbs : ℕ → List ℕ → ℕ
limbs j x = t x j ⊞ 65536 ⊠ t x (j + 1)

-- two operands of 32 bits
unfoldable pub takes_two : Flags → ℕ
takes_two fl =
    fl ops.U32Add ⊞ fl ops.U32Sub ⊞ fl ops.U32Mul ⊞ fl ops.U32Div ⊞ fl ops.U32Assert2 ⊞ fl ops.U32Add3 ⊞ fl ops.U32MAdd

-- a third one
unfoldable pub takes_three : Flags → ℕ
takes_three fl = fl ops.U32Add3 ⊞ fl ops.U32MAdd

-- the number of the two cells that are left, the high word on top
unfoldable pub two_left : List ℕ → ℕ
two_left y = s y 1 ⊞ 2 ^ 32 ⊠ s y 0

-- the operands are the numbers of their limbs
unfoldable pub entry_140 : RowEntry
entry_140 fl x = takes_two fl ⊠ (s x 0 ⊟ limbs 0 x)

unfoldable pub entry_141 : RowEntry
entry_141 fl x = takes_two fl ⊠ (s x 1 ⊟ limbs 2 x)

unfoldable pub entry_142 : RowEntry
entry_142 fl x = takes_three fl ⊠ (s x 2 ⊟ limbs 4 x)

-- so is the low word that is left
unfoldable pub entry_143 : PairEntry
entry_143 fl gl x y =
    fl ops.U32Split ⊠ (s y 1 ⊟ limbs 0 x)
    ⊞ (fl ops.U32Add ⊞ fl ops.U32Sub ⊞ fl ops.U32Mul ⊞ fl ops.U32Div) ⊠ (s y 1 ⊟ limbs 4 x)
    ⊞ takes_three fl ⊠ (s y 1 ⊟ limbs 6 x)

-- and the high one, which is a single limb where it is a carry, and 0 or 1 where it is a borrow
unfoldable pub entry_144 : PairEntry
entry_144 fl gl x y =
    fl ops.U32Split ⊠ (s y 0 ⊟ limbs 2 x) ⊞ fl ops.U32Add ⊠ (s y 0 ⊟ t x 6) ⊞ fl ops.U32Add3 ⊠ (s y 0 ⊟ t x 8)
    ⊞ fl ops.U32Sub ⊠ s y 0 ⊠ (s y 0 ⊟ 1) ⊞ (fl ops.U32Mul ⊞ fl ops.U32Div) ⊠ (s y 0 ⊟ limbs 6 x)
    ⊞ fl ops.U32MAdd ⊠ (s y 0 ⊟ limbs 8 x)

-- the operation itself, over both words
unfoldable pub entry_145 : PairEntry
entry_145 fl gl x y =
    fl ops.U32Split ⊠ (s x 0 ⊟ two_left y) ⊞ fl ops.U32Add ⊠ (s x 0 ⊞ s x 1 ⊟ two_left y)
    ⊞ fl ops.U32Add3 ⊠ (s x 0 ⊞ s x 1 ⊞ s x 2 ⊟ two_left y) ⊞ fl ops.U32Mul ⊠ (s x 0 ⊠ s x 1 ⊟ two_left y)
    ⊞ fl ops.U32MAdd ⊠ (s x 0 ⊠ s x 1 ⊞ s x 2 ⊟ two_left y)
    ⊞ fl ops.U32Sub ⊠ (s x 1 ⊟ s x 0 ⊟ s y 1 ⊞ 2 ^ 32 ⊠ s y 0) ⊞ fl ops.U32Div ⊠ (s x 1 ⊟ s x 0 ⊠ s y 1 ⊟ s y 0)

-- two words of 32 bits are one element in one way alone: the high one is not 2^32 - 1 unless the low one is 0
unfoldable pub entry_146 : PairEntry
entry_146 fl gl x y =
    (fl ops.U32Split ⊞ fl ops.U32Mul ⊞ fl ops.U32MAdd) ⊠ (1 ⊟ (2 ^ 32 - 1 ⊟ s y 0) ⊠ w x 0) ⊠ s y 1

-- the remainder is below the divisor
unfoldable pub entry_147 : RowEntry
entry_147 fl x = fl ops.U32Div ⊠ (s x 0 ⊟ limbs 6 x ⊟ 1 ⊟ limbs 8 x)

unfoldable pub u32_values : Spot → List ℕ
u32_values p =
    on_row entry_140 p ∷ on_row entry_141 p ∷ on_row entry_142 p ∷ on_pair entry_143 p ∷ on_pair entry_144 p
    ∷ on_pair entry_145 p ∷ on_pair entry_146 p ∷ on_row entry_147 p ∷ []
