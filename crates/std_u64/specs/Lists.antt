-- The procedures on numbers of 64 bits: their names, and the list of instructions of each.
use Rattle.std.specs.Prelude.{ℕ, if◌then◌else◌, List, [], ◌∷◌, ◌++◌, Option, Some, None, bytes_eq, codes}
use Rattle.std.specs.List.{flat_map}
use Rattle.vm_ops.specs.declared.item.Item.{Item}
use Rattle.masm_instr.specs.declared.name.Name.{Name}
use Rattle.masm_instr.specs.declared.name.Name.TheVariants as names
use Rattle.masm_instr.specs.Instructions.{Instruction}
use Rattle.masm_expand.specs.Expansion.{expansion}
use Rattle.std_u64.specs.declared.names.U64Procedure.{U64Procedure}
use Rattle.std_u64.specs.declared.names.U64Procedure.TheVariants as procedures

-- an instruction without a number, and one with a number
abbrev pub bare : Name → Instruction
bare name = record { name = name; numbers = [] }

abbrev pub numbered : Name → ℕ → Instruction
numbered name number = record { name = name; numbers = number ∷ [] }

-- b and a exchanged
abbrev pub exchange : List Instruction
exchange = numbered names.Movup 3 ∷ numbered names.Movup 3 ∷ []

-- The carry and the sum: the low limbs first, and then the high ones with their carry.
abbrev pub adding : List Instruction
adding =
    bare names.Swap ∷ numbered names.Movup 3 ∷ bare names.U32OverflowingAdd ∷ numbered names.Movup 3
    ∷ numbered names.Movup 3 ∷ bare names.U32OverflowingAdd3 ∷ []

-- The borrow and the difference: the low limbs, the high ones, and the borrow of the low ones from these.
abbrev pub subtracting : List Instruction
subtracting =
    numbered names.Movup 3 ∷ numbered names.Movup 2 ∷ bare names.U32OverflowingSub ∷ numbered names.Movup 3
    ∷ numbered names.Movup 3 ∷ bare names.U32OverflowingSub ∷ bare names.Swap ∷ numbered names.Movup 2
    ∷ bare names.U32OverflowingSub ∷ numbered names.Movup 2 ∷ bare names.Or ∷ []

-- the borrow alone
abbrev pub comparing : List Instruction
comparing = subtracting ++ numbered names.Movdn 2 ∷ bare names.Drop ∷ bare names.Drop ∷ []

-- the list of a procedure
abbrev pub instructions : U64Procedure → List Instruction
instructions procedures.OverflowingAdd = adding
instructions procedures.WrappingAdd = adding ++ bare names.Drop ∷ []
instructions procedures.CheckedAdd = adding ++ bare names.Assertz ∷ []
instructions procedures.OverflowingSub = subtracting
instructions procedures.WrappingSub = subtracting ++ bare names.Drop ∷ []
instructions procedures.CheckedSub = subtracting ++ bare names.Assertz ∷ []
instructions procedures.Lt = comparing
instructions procedures.Gte = comparing ++ bare names.Not ∷ []
instructions procedures.Gt = exchange ++ comparing
instructions procedures.Lte = exchange ++ comparing ++ bare names.Not ∷ []
instructions procedures.Eq =
    bare names.U32Assertw ∷ numbered names.Movup 2 ∷ bare names.Eq ∷ numbered names.Movdn 2 ∷ bare names.Eq ∷ bare names.And ∷ []

-- the operations of its instructions, one instruction's behind another's
unfoldable pub operations : U64Procedure → List Item
operations procedure = flat_map (λ instr. expansion instr.name instr.numbers 0) (instructions procedure)

-- how the procedure is named in a source
abbrev pub name_of_procedure : U64Procedure → List ℕ
name_of_procedure procedures.OverflowingAdd = codes "u64_overflowing_add"
name_of_procedure procedures.WrappingAdd = codes "u64_wrapping_add"
name_of_procedure procedures.CheckedAdd = codes "u64_checked_add"
name_of_procedure procedures.OverflowingSub = codes "u64_overflowing_sub"
name_of_procedure procedures.WrappingSub = codes "u64_wrapping_sub"
name_of_procedure procedures.CheckedSub = codes "u64_checked_sub"
name_of_procedure procedures.Lt = codes "u64_lt"
name_of_procedure procedures.Gte = codes "u64_gte"
name_of_procedure procedures.Gt = codes "u64_gt"
name_of_procedure procedures.Lte = codes "u64_lte"
name_of_procedure procedures.Eq = codes "u64_eq"

-- the first of these procedures that has the name
abbrev pub procedure_of : List U64Procedure → List ℕ → Option U64Procedure
procedure_of [] name = None
procedure_of (procedure ∷ more) name =
    if bytes_eq (name_of_procedure procedure) name then Some procedure else procedure_of more name
