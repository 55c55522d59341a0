-- The table of the instructions: how each is written, the numbers that it takes, and the operations that stand last in
-- its list, whatever its numbers. The rest of a list is in `masm_expand`.
use Rattle.std.specs.Prelude.{ℕ, ◌-◌, ◌^◌, Bool, true, false, List, [], ◌∷◌, ◌++◌, codes}
use Rattle.vm_field.specs.Field.{prime}
use Rattle.vm_ops.specs.declared.op.Op.{Op}
use Rattle.vm_ops.specs.declared.op.Op.TheVariants as ops
use Rattle.masm_instr.specs.declared.name.Name.{Name}
use Rattle.masm_instr.specs.declared.name.Name.TheVariants as names
use Rattle.masm_instr.specs.declared.form.Form.{Form}

pub record InstrRow : Type 0 where
  pub text : List ℕ
  pub form : Form
  pub last : List Op

abbrev pub row : List ℕ → Form → List Op → InstrRow
row text form last = record { text = text; form = form; last = last }

-- at least and at most how many numbers, whether constants may stand for them, and the least and the greatest that each
-- may be
abbrev pub takes : ℕ → ℕ → Bool → ℕ → ℕ → Form
takes least most constants low high =
    record { least = least; most = most; constants = constants; low = low; high = high }

abbrev pub no_number : Form
no_number = takes 0 0 false 0 0

-- none or one, an element
abbrev pub one_element : Form
one_element = takes 0 1 true 0 (prime - 1)

-- none or one, of 32 bits
abbrev pub one_u32 : Form
one_u32 = takes 0 1 true 0 4294967295

-- none or one, by which a number of 32 bits is shifted
abbrev pub one_amount : Form
one_amount = takes 0 1 true 0 31

-- a local's number, of any size here: the parser tests it against the count of locals
abbrev pub one_local : Form
one_local = takes 1 1 true 0 (2 ^ 128 - 1)

-- the order of the two cells on top as numbers: 1 where the second is less than the first, else 0
abbrev pub less_than : List Op
less_than =
    ops.U32Split ∷ ops.MovUp2 ∷ ops.U32Split ∷ ops.MovUp3 ∷ ops.MovUp2 ∷ ops.Swap ∷ ops.U32Sub ∷ ops.Swap
    ∷ ops.Drop ∷ ops.MovDn2 ∷ ops.Dup1 ∷ ops.Dup1 ∷ ops.Eq ∷ ops.MovUp3 ∷ ops.And ∷ ops.MovDn2 ∷ ops.Swap ∷ ops.U32Sub
    ∷ ops.Swap ∷ ops.Drop ∷ ops.Or ∷ []

abbrev pub row_of : Name → InstrRow
row_of names.Add = row (codes "add") one_element (ops.Add ∷ [])
row_of names.Sub = row (codes "sub") one_element (ops.Neg ∷ ops.Add ∷ [])
row_of names.Mul = row (codes "mul") one_element (ops.Mul ∷ [])
row_of names.Div = row (codes "div") one_element (ops.Inv ∷ ops.Mul ∷ [])
row_of names.Neg = row (codes "neg") no_number (ops.Neg ∷ [])
row_of names.Inv = row (codes "inv") no_number (ops.Inv ∷ [])
row_of names.Exp = row (codes "exp") (takes 1 1 true 0 (prime - 1)) (ops.Swap ∷ ops.Drop ∷ [])
row_of names.Pow2 = row (codes "pow2") no_number []
row_of names.Not = row (codes "not") no_number (ops.Not ∷ [])
row_of names.And = row (codes "and") no_number (ops.And ∷ [])
row_of names.Or = row (codes "or") no_number (ops.Or ∷ [])
row_of names.Xor = row (codes "xor") no_number (ops.Dup1 ∷ ops.Dup1 ∷ ops.Or ∷ ops.MovDn2 ∷ ops.And ∷ ops.Not ∷ ops.And ∷ [])
row_of names.Eq = row (codes "eq") one_element (ops.Eq ∷ [])
row_of names.Neq = row (codes "neq") one_element (ops.Eq ∷ ops.Not ∷ [])
row_of names.Lt = row (codes "lt") no_number less_than
row_of names.Gt = row (codes "gt") no_number (ops.Swap ∷ less_than)
row_of names.Lte = row (codes "lte") no_number (ops.Swap ∷ (less_than ++ ops.Not ∷ []))
row_of names.Gte = row (codes "gte") no_number (less_than ++ ops.Not ∷ [])
row_of names.IsOdd = row (codes "is_odd") no_number (ops.U32Div ∷ ops.Swap ∷ ops.Drop ∷ [])
row_of names.Eqw =
    row (codes "eqw") no_number (ops.Dup7 ∷ ops.Dup4 ∷ ops.Eq ∷ ops.Dup7 ∷ ops.Dup4 ∷ ops.Eq ∷ ops.Dup7 ∷ ops.Dup4 ∷ ops.Eq
    ∷ ops.Dup7 ∷ ops.Dup4 ∷ ops.Eq ∷ ops.And ∷ ops.And ∷ ops.And ∷ [])
row_of names.Assert = row (codes "assert") no_number (ops.Assert ∷ [])
row_of names.Assertz = row (codes "assertz") no_number (ops.Eqz ∷ ops.Assert ∷ [])
row_of names.AssertEq = row (codes "assert_eq") no_number (ops.Eq ∷ ops.Assert ∷ [])
row_of names.AssertEqw =
    row (codes "assert_eqw") no_number (ops.MovUp4 ∷ ops.Eq ∷ ops.Assert ∷ ops.MovUp3 ∷ ops.Eq ∷ ops.Assert ∷ ops.MovUp2
    ∷ ops.Eq ∷ ops.Assert ∷ ops.Eq ∷ ops.Assert ∷ [])
row_of names.U32Test = row (codes "u32test") no_number (ops.Dup0 ∷ ops.U32Split ∷ ops.Swap ∷ ops.Drop ∷ ops.Eqz ∷ [])
row_of names.U32Assert = row (codes "u32assert") (takes 0 1 false 2 2) []
row_of names.U32Assertw =
    row (codes "u32assertw") no_number (ops.U32Assert2 ∷ ops.MovUp3 ∷ ops.MovUp3 ∷ ops.U32Assert2 ∷ ops.MovUp3 ∷ ops.MovUp3
    ∷ [])
row_of names.U32Cast = row (codes "u32cast") no_number (ops.U32Split ∷ ops.Drop ∷ [])
row_of names.U32Split = row (codes "u32split") no_number (ops.U32Split ∷ [])
row_of names.U32CheckedAdd = row (codes "u32checked_add") one_u32 (ops.U32Add ∷ ops.Eqz ∷ ops.Assert ∷ [])
row_of names.U32CheckedSub = row (codes "u32checked_sub") one_u32 (ops.U32Sub ∷ ops.Eqz ∷ ops.Assert ∷ [])
row_of names.U32CheckedMul = row (codes "u32checked_mul") one_u32 (ops.U32Mul ∷ ops.Eqz ∷ ops.Assert ∷ [])
row_of names.U32WrappingAdd = row (codes "u32wrapping_add") one_u32 (ops.U32Add ∷ ops.Drop ∷ [])
row_of names.U32WrappingSub = row (codes "u32wrapping_sub") one_u32 (ops.U32Sub ∷ ops.Drop ∷ [])
row_of names.U32WrappingMul = row (codes "u32wrapping_mul") one_u32 (ops.U32Mul ∷ ops.Drop ∷ [])
row_of names.U32OverflowingAdd = row (codes "u32overflowing_add") one_u32 (ops.U32Add ∷ [])
row_of names.U32OverflowingSub = row (codes "u32overflowing_sub") one_u32 (ops.U32Sub ∷ [])
row_of names.U32OverflowingMul = row (codes "u32overflowing_mul") one_u32 (ops.U32Mul ∷ [])
row_of names.U32OverflowingAdd3 = row (codes "u32overflowing_add3") no_number (ops.U32Add3 ∷ [])
row_of names.U32WrappingAdd3 = row (codes "u32wrapping_add3") no_number (ops.U32Add3 ∷ ops.Drop ∷ [])
row_of names.U32OverflowingMadd = row (codes "u32overflowing_madd") no_number (ops.U32MAdd ∷ [])
row_of names.U32WrappingMadd = row (codes "u32wrapping_madd") no_number (ops.U32MAdd ∷ ops.Drop ∷ [])
row_of names.U32CheckedDiv = row (codes "u32checked_div") one_u32 (ops.U32Div ∷ ops.Drop ∷ [])
row_of names.U32CheckedMod = row (codes "u32checked_mod") one_u32 (ops.U32Div ∷ ops.Swap ∷ ops.Drop ∷ [])
row_of names.U32CheckedDivmod = row (codes "u32checked_divmod") one_u32 (ops.U32Div ∷ [])
row_of names.U32CheckedAnd = row (codes "u32checked_and") no_number (ops.U32And ∷ [])
row_of names.U32CheckedXor = row (codes "u32checked_xor") no_number (ops.U32Xor ∷ [])
row_of names.U32CheckedOr =
    row (codes "u32checked_or") no_number (ops.Dup1 ∷ ops.Dup1 ∷ ops.U32And ∷ ops.Neg ∷ ops.Add ∷ ops.Add ∷ [])
row_of names.U32CheckedNot = row (codes "u32checked_not") no_number (ops.U32Assert2 ∷ ops.Swap ∷ ops.Neg ∷ ops.Add ∷ [])
row_of names.U32CheckedShl = row (codes "u32checked_shl") one_amount (ops.U32Mul ∷ ops.Drop ∷ [])
row_of names.U32CheckedShr = row (codes "u32checked_shr") one_amount (ops.U32Div ∷ ops.Drop ∷ [])
row_of names.U32CheckedRotl = row (codes "u32checked_rotl") one_amount (ops.U32Mul ∷ ops.Add ∷ [])
row_of names.U32CheckedRotr = row (codes "u32checked_rotr") (takes 1 1 true 0 31) (ops.U32Mul ∷ ops.Add ∷ [])
row_of names.U32CheckedLt = row (codes "u32checked_lt") no_number (ops.U32Sub ∷ ops.Swap ∷ ops.Drop ∷ [])
row_of names.U32CheckedGte = row (codes "u32checked_gte") no_number (ops.U32Sub ∷ ops.Swap ∷ ops.Drop ∷ ops.Not ∷ [])
row_of names.U32CheckedGt = row (codes "u32checked_gt") no_number (ops.Swap ∷ ops.U32Sub ∷ ops.Swap ∷ ops.Drop ∷ [])
row_of names.U32CheckedLte = row (codes "u32checked_lte") no_number (ops.Swap ∷ ops.U32Sub ∷ ops.Swap ∷ ops.Drop ∷ ops.Not ∷ [])
row_of names.U32CheckedMax =
    row (codes "u32checked_max") no_number (ops.Dup1 ∷ ops.Dup1 ∷ ops.U32Sub ∷ ops.Swap ∷ ops.Drop ∷ ops.CSwap ∷ ops.Drop ∷ [])
row_of names.U32CheckedMin =
    row (codes "u32checked_min") no_number (ops.Dup1 ∷ ops.Dup1 ∷ ops.U32Sub ∷ ops.Swap ∷ ops.Drop ∷ ops.CSwap ∷ ops.Swap
    ∷ ops.Drop ∷ [])
row_of names.Drop = row (codes "drop") no_number (ops.Drop ∷ [])
row_of names.Dropw = row (codes "dropw") no_number (ops.Drop ∷ ops.Drop ∷ ops.Drop ∷ ops.Drop ∷ [])
row_of names.Padw = row (codes "padw") no_number (ops.Pad ∷ ops.Pad ∷ ops.Pad ∷ ops.Pad ∷ [])
row_of names.Dup = row (codes "dup") (takes 0 1 false 0 15) []
row_of names.Dupw = row (codes "dupw") (takes 0 1 false 0 3) []
row_of names.Movup = row (codes "movup") (takes 1 1 false 2 15) []
row_of names.Movdn = row (codes "movdn") (takes 1 1 false 2 15) []
row_of names.Swap = row (codes "swap") (takes 0 1 false 1 15) []
row_of names.Swapw = row (codes "swapw") (takes 0 1 false 1 3) []
row_of names.Swapdw = row (codes "swapdw") no_number (ops.SwapDW ∷ [])
row_of names.Movupw = row (codes "movupw") (takes 1 1 false 2 3) []
row_of names.Movdnw = row (codes "movdnw") (takes 1 1 false 2 3) []
row_of names.Cswap = row (codes "cswap") no_number (ops.CSwap ∷ [])
row_of names.Cswapw = row (codes "cswapw") no_number (ops.CSwapW ∷ [])
row_of names.Cdrop = row (codes "cdrop") no_number (ops.CSwap ∷ ops.Drop ∷ [])
row_of names.Cdropw = row (codes "cdropw") no_number (ops.CSwapW ∷ ops.Drop ∷ ops.Drop ∷ ops.Drop ∷ ops.Drop ∷ [])
row_of names.Push = row (codes "push") (takes 1 16 true 0 (prime - 1)) []
row_of names.Sdepth = row (codes "sdepth") no_number (ops.SDepth ∷ [])
row_of names.Caller = row (codes "caller") no_number (ops.Caller ∷ [])
row_of names.Clk = row (codes "clk") no_number (ops.Clk ∷ [])
row_of names.AdvPush = row (codes "adv_push") (takes 1 1 false 1 16) []
row_of names.AdvLoadw = row (codes "adv_loadw") no_number (ops.AdvPopW ∷ [])
row_of names.MemLoad = row (codes "mem_load") one_u32 (ops.MLoad ∷ [])
row_of names.MemLoadw = row (codes "mem_loadw") one_u32 (ops.MLoadW ∷ [])
row_of names.MemStore = row (codes "mem_store") one_u32 (ops.MStore ∷ ops.Drop ∷ [])
row_of names.MemStorew = row (codes "mem_storew") one_u32 (ops.MStoreW ∷ [])
row_of names.Locaddr = row (codes "locaddr") one_local (ops.FmpAdd ∷ [])
row_of names.LocLoad = row (codes "loc_load") one_local (ops.FmpAdd ∷ ops.MLoad ∷ [])
row_of names.LocLoadw = row (codes "loc_loadw") one_local (ops.FmpAdd ∷ ops.MLoadW ∷ [])
row_of names.LocStore = row (codes "loc_store") one_local (ops.FmpAdd ∷ ops.MStore ∷ ops.Drop ∷ [])
row_of names.LocStorew = row (codes "loc_storew") one_local (ops.FmpAdd ∷ ops.MStoreW ∷ [])
row_of names.Hperm = row (codes "hperm") no_number (ops.HPerm ∷ [])
row_of names.Hmerge =
    row (codes "hmerge") no_number (ops.Pad ∷ ops.Pad ∷ ops.Pad ∷ ops.Pad ∷ ops.SwapW2 ∷ ops.SwapW ∷ ops.HPerm ∷ ops.Drop
    ∷ ops.Drop ∷ ops.Drop ∷ ops.Drop ∷ ops.SwapW ∷ ops.Drop ∷ ops.Drop ∷ ops.Drop ∷ ops.Drop ∷ [])

-- how the name is written in a source
abbrev pub text_of : Name → List ℕ
text_of name = (row_of name).text

-- the numbers that an instruction takes
abbrev pub form_of : Name → Form
form_of name = (row_of name).form

-- the operations that stand last
abbrev pub fixed : Name → List Op
fixed name = (row_of name).last
