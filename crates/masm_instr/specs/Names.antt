-- The names of the instructions, as they are written in a source.
use Rattle.std.specs.Prelude.{◌≡◌, ◌↔◌, ℕ, if◌then◌else◌, List, [], ◌∷◌, Option, Some, None, bytes_eq}
use Rattle.masm_instr.specs.declared.name.Name.{Name}
use Rattle.masm_instr.specs.declared.name.Name.TheVariants as names
use Rattle.masm_instr.specs.Table.{text_of}

-- every name
unfoldable pub every_name : List Name
every_name =
    names.Add ∷ names.Sub ∷ names.Mul ∷ names.Div ∷ names.Neg ∷ names.Inv ∷ names.Exp ∷ names.Pow2 ∷ names.Not
    ∷ names.And ∷ names.Or ∷ names.Xor ∷ names.Eq ∷ names.Neq ∷ names.Lt ∷ names.Gt ∷ names.Lte ∷ names.Gte
    ∷ names.IsOdd ∷ names.Eqw ∷ names.Assert ∷ names.Assertz ∷ names.AssertEq ∷ names.AssertEqw ∷ names.U32Test
    ∷ names.U32Assert ∷ names.U32Assertw ∷ names.U32Cast ∷ names.U32Split ∷ names.U32CheckedAdd ∷ names.U32CheckedSub
    ∷ names.U32CheckedMul ∷ names.U32WrappingAdd ∷ names.U32WrappingSub ∷ names.U32WrappingMul
    ∷ names.U32OverflowingAdd ∷ names.U32OverflowingSub ∷ names.U32OverflowingMul ∷ names.U32OverflowingAdd3
    ∷ names.U32WrappingAdd3 ∷ names.U32OverflowingMadd ∷ names.U32WrappingMadd ∷ names.U32CheckedDiv
    ∷ names.U32CheckedMod ∷ names.U32CheckedDivmod ∷ names.U32CheckedAnd ∷ names.U32CheckedXor ∷ names.U32CheckedOr
    ∷ names.U32CheckedNot ∷ names.U32CheckedShl ∷ names.U32CheckedShr ∷ names.U32CheckedRotl ∷ names.U32CheckedRotr
    ∷ names.U32CheckedLt ∷ names.U32CheckedGte ∷ names.U32CheckedGt ∷ names.U32CheckedLte ∷ names.U32CheckedMax
    ∷ names.U32CheckedMin ∷ names.Drop ∷ names.Dropw ∷ names.Padw ∷ names.Dup ∷ names.Dupw ∷ names.Movup
    ∷ names.Movdn ∷ names.Swap ∷ names.Swapw ∷ names.Swapdw ∷ names.Movupw ∷ names.Movdnw ∷ names.Cswap
    ∷ names.Cswapw ∷ names.Cdrop ∷ names.Cdropw ∷ names.Push ∷ names.Sdepth ∷ names.Caller ∷ names.Clk
    ∷ names.AdvPush ∷ names.AdvLoadw ∷ names.MemLoad ∷ names.MemLoadw ∷ names.MemStore ∷ names.MemStorew
    ∷ names.Locaddr ∷ names.LocLoad ∷ names.LocLoadw ∷ names.LocStore ∷ names.LocStorew ∷ names.Hperm ∷ names.Hmerge ∷ []

-- the first of these names that has the text
abbrev pub first_named : List Name → List ℕ → Option Name
first_named [] text = None
first_named (name ∷ more) text = if bytes_eq (text_of name) text then Some name else first_named more text

-- the name that has the text
unfoldable pub name_of : List ℕ → Option Name
name_of text = first_named every_name text

-- a text is a name's exactly where the name is written so
abbrev pub NamesAreTexts : Type 0
NamesAreTexts = (name : Name) (text : List ℕ) → (name_of text ≡ Some name) ↔ (text_of name ≡ text)
