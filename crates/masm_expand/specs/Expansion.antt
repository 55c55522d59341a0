-- The operations that each instruction stands for. An instruction's list is a front, which its numbers decide, and then
-- the operations that stand last (`Table` of `masm_instr`).
use Rattle.std.specs.Prelude.{ℕ, zero, suc, ◌+◌, ◌-◌, ◌*◌, ◌/◌, ◌%◌, ◌^◌, ◌==◌, ◌||◌, nat_lt, nat_le, if◌then◌else◌, List, [], ◌∷◌, ◌++◌, map, replicate, slice_index_or}
use Rattle.std.specs.List.{flat_map}
use Rattle.vm_field.specs.Field.{prime}
use Rattle.vm_ops.specs.declared.op.Op.{Op}
use Rattle.vm_ops.specs.declared.op.Op.TheVariants as ops
use Rattle.vm_ops.specs.declared.item.Item.{Item}
use Rattle.vm_ops.specs.Items.{plain_item, push_item}
use Rattle.masm_instr.specs.declared.name.Name.{Name}
use Rattle.masm_instr.specs.declared.name.Name.TheVariants as names
use Rattle.masm_instr.specs.Table.{fixed}
use Rattle.masm_instr.specs.Instructions.{first, first_or}

-- operations with no immediate
abbrev pub plain : List Op → List Item
plain operations = map plain_item operations

-- PAD for 0, else PUSH
abbrev pub lit : ℕ → Item
lit v = if v == 0 then plain_item ops.Pad else push_item v

-- The operations that copy cells, by the cell; NOOP stands where there is none.
abbrev pub dups : List Op
dups =
    ops.Dup0 ∷ ops.Dup1 ∷ ops.Dup2 ∷ ops.Dup3 ∷ ops.Dup4 ∷ ops.Dup5 ∷ ops.Dup6 ∷ ops.Dup7 ∷ ops.Noop ∷ ops.Dup9 ∷ ops.Noop
    ∷ ops.Dup11 ∷ ops.Noop ∷ ops.Dup13 ∷ ops.Noop ∷ ops.Dup15 ∷ []

-- the operations that move a cell to the top, by the cell, and the top to a cell
abbrev pub movups : List Op
movups =
    ops.Noop ∷ ops.Swap ∷ ops.MovUp2 ∷ ops.MovUp3 ∷ ops.MovUp4 ∷ ops.MovUp5 ∷ ops.MovUp6 ∷ ops.MovUp7 ∷ ops.MovUp8 ∷ []

abbrev pub movdns : List Op
movdns =
    ops.Noop ∷ ops.Swap ∷ ops.MovDn2 ∷ ops.MovDn3 ∷ ops.MovDn4 ∷ ops.MovDn5 ∷ ops.MovDn6 ∷ ops.MovDn7 ∷ ops.MovDn8 ∷ []

-- the operations that exchange the top word with a word, by the word
abbrev pub swapws : List Op
swapws = ops.Noop ∷ ops.SwapW ∷ ops.SwapW2 ∷ ops.SwapW3 ∷ []

-- the operation of a table
abbrev pub entry : List Op → ℕ → Op
entry table n = slice_index_or table n ops.Noop

-- a copy of cell n
unfoldable pub dup : ℕ → List Op
dup n =
    if nat_lt n 8 || n % 2 == 1 then entry dups n ∷ [] else ops.Pad ∷ entry dups (n + 1) ∷ ops.Add ∷ []

-- cell n to the top
unfoldable pub movup : ℕ → List Op
movup n =
    if nat_le n 8 then entry movups n ∷ []
    else ops.SwapDW ∷ entry movups (n - 8) ∷ ops.SwapDW ∷ ops.MovUp8 ∷ []

-- the top to cell n
unfoldable pub movdn : ℕ → List Op
movdn n =
    if nat_le n 8 then entry movdns n ∷ []
    else ops.MovDn8 ∷ ops.SwapDW ∷ entry movdns (n - 8) ∷ ops.SwapDW ∷ []

-- the top exchanged with cell n
unfoldable pub swap : ℕ → List Op
swap n = if n == 1 then ops.Swap ∷ [] else movdn n ++ movup (n - 1)

-- word n, which is 2 or 3, to the top
unfoldable pub movupw : ℕ → List Op
movupw n = if n == 2 then ops.SwapW ∷ ops.SwapW2 ∷ [] else ops.SwapW ∷ ops.SwapW2 ∷ ops.SwapW3 ∷ []

-- the top word to word n, which is 2 or 3
unfoldable pub movdnw : ℕ → List Op
movdnw n = if n == 2 then ops.SwapW2 ∷ ops.SwapW ∷ [] else ops.SwapW3 ∷ ops.SwapW2 ∷ ops.SwapW ∷ []

-- A binary digit of an exponent, of which the digits down to it make the number v: none where it is a leading zero, else
-- the power so far is squared, and where the digit is 1 the base is multiplied in.
abbrev pub exp_digit : ℕ → List Op
exp_digit v =
    if v == 0 then []
    else (if v % 2 == 1 then ops.Dup0 ∷ ops.Mul ∷ ops.Dup1 ∷ ops.Mul ∷ [] else ops.Dup0 ∷ ops.Mul ∷ [])

-- the last k binary digits of an exponent, the highest first
unfoldable pub exp_digits : ℕ → ℕ → List Op
exp_digits zero e = []
exp_digits (suc k) e = exp_digit (e / 2 ^ k) ++ exp_digits k e

-- A step of pow2 takes a binary digit of its operand and multiplies its factor in where the digit is 1. The number is
-- the factor less 1.
abbrev pub pow2_step : ℕ → List Item
pow2_step less =
    push_item 2 ∷ plain_item ops.U32Div ∷ push_item less ∷ plain (ops.Mul ∷ ops.Incr ∷ ops.MovUp2 ∷ ops.Mul ∷ ops.Swap ∷ [])

-- 2 to the power of the top: the factors are 2 ^ 2 ^ i for i = 0 to 5, and nothing may be left of the operand
unfoldable pub pow2 : List Item
pow2 =
    push_item 1 ∷ plain_item ops.Swap ∷ (flat_map pow2_step (1 ∷ 3 ∷ 15 ∷ 255 ∷ 65535 ∷ 4294967295 ∷ [])
    ++ plain (ops.Eqz ∷ ops.Assert ∷ []))

-- 2 to the power of the number, or of the top where no number is given
abbrev pub two_to : List ℕ → List Item
two_to [] = pow2
two_to (b ∷ more) = push_item (2 ^ b) ∷ []

-- one number, or the top two where no number is given, must be of 32 bits
abbrev pub assert_u32 : List ℕ → List Op
assert_u32 [] = ops.Pad ∷ ops.U32Assert2 ∷ ops.Drop ∷ []
assert_u32 (two ∷ more) = ops.U32Assert2 ∷ []

-- the address of local i of so many, less the frame pointer
abbrev pub local : ℕ → ℕ → Item
local locals i = lit (prime - (locals - i))

-- What the numbers decide, in a procedure of so many locals. The numbers of every instruction that is not named here are
-- pushed.
unfoldable pub front : Name → List ℕ → ℕ → List Item
front names.Exp numbers locals = lit 1 ∷ plain (exp_digits 64 (first numbers))
front names.Pow2 numbers locals = pow2
front names.IsOdd numbers locals = plain (ops.U32Split ∷ ops.Drop ∷ []) ++ push_item 2 ∷ []
front names.U32Assert numbers locals = plain (assert_u32 numbers)
front names.U32CheckedNot numbers locals = push_item 4294967295 ∷ []
front names.U32CheckedShl numbers locals = two_to numbers
front names.U32CheckedShr numbers locals = two_to numbers
front names.U32CheckedRotl numbers locals = two_to numbers
front names.U32CheckedRotr numbers locals = push_item (2 ^ ((32 - first numbers) % 32)) ∷ []
front names.Dup numbers locals = plain (dup (first_or 0 numbers))
front names.Dupw numbers locals = plain (replicate 4 (entry dups (4 * first_or 0 numbers + 3)))
front names.Movup numbers locals = plain (movup (first numbers))
front names.Movdn numbers locals = plain (movdn (first numbers))
front names.Swap numbers locals = plain (swap (first_or 1 numbers))
front names.Swapw numbers locals = plain (entry swapws (first_or 1 numbers) ∷ [])
front names.Movupw numbers locals = plain (movupw (first numbers))
front names.Movdnw numbers locals = plain (movdnw (first numbers))
front names.AdvPush numbers locals = plain (replicate (first numbers) ops.AdvPop)
front names.Locaddr numbers locals = local locals (first numbers) ∷ []
front names.LocLoad numbers locals = local locals (first numbers) ∷ []
front names.LocLoadw numbers locals = local locals (first numbers) ∷ []
front names.LocStore numbers locals = local locals (first numbers) ∷ []
front names.LocStorew numbers locals = local locals (first numbers) ∷ []
front name numbers locals = map lit numbers

-- the operations of an instruction, in a procedure of so many locals
unfoldable pub expansion : Name → List ℕ → ℕ → List Item
expansion name numbers locals = front name numbers locals ++ plain (fixed name)
