-- How a token is read as an instruction, with the constants defined before it. The parts of a token are what stands
-- between its dots: the first is the instruction's name, and each other gives a number.
use Rattle.std.specs.Prelude.{ℕ, Bool, ◌==◌, ◌||◌, if◌then◌else◌, List, [], ◌∷◌, length, Option, Some, None, Result, Ok, Err, bytes_eq, codes}
use Rattle.std.specs.List.{list_all, list_any, slice_split}
use Rattle.std.specs.Option.{option_or}
use Rattle.masm_instr.specs.declared.name.Name.{Name}
use Rattle.masm_reading.specs.declared.constant.Const.{Const}
use Rattle.masm_reading.specs.declared.refusal.InstrError.{InstrError}
use Rattle.masm_reading.specs.declared.refusal.InstrError.TheVariants as errors
use Rattle.masm_instr.specs.Names.{name_of}
use Rattle.masm_instr.specs.Table.{form_of}
use Rattle.masm_reading.specs.Constants.{constant_of}
use Rattle.masm_reading.specs.Numbers.{number}
use Rattle.masm_instr.specs.Instructions.{Instruction, is_count, is_in_range}

-- what an error says of the token: its refusal, if it is one
abbrev pub refusal_in : InstrError → Option InstrError
refusal_in errors.Unsupported = Some errors.Unsupported
refusal_in errors.UnknownInstruction = Some errors.UnknownInstruction
refusal_in errors.Syntax = Some errors.Syntax
refusal_in errors.NumberRange = Some errors.NumberRange
refusal_in errors.Memory = None

-- the number that a part gives, by itself or, where constants may stand, by a constant's name
unfoldable pub parameter_of : List Const → Bool → List ℕ → Option ℕ
parameter_of consts constants part =
    option_or (number part) (if constants then constant_of consts part else None)

abbrev pub both : Option ℕ → Option (List ℕ) → Option (List ℕ)
both None more = None
both (Some n) None = None
both (Some n) (Some ns) = Some (n ∷ ns)

-- the numbers that the parts give, where each gives one
abbrev pub parameters_of : List Const → Bool → List (List ℕ) → Option (List ℕ)
parameters_of consts constants [] = Some []
parameters_of consts constants (part ∷ parts) =
    both (parameter_of consts constants part) (parameters_of consts constants parts)

-- the instruction, where its numbers are in their range
abbrev pub ranged : Name → Option (List ℕ) → Result Instruction InstrError
ranged name None = Err errors.Syntax
ranged name (Some numbers) =
    if list_all (is_in_range (form_of name)) numbers then Ok (record { name = name; numbers = numbers })
    else Err errors.NumberRange

-- the instruction of a name with the parts that stand behind the name
unfoldable pub formed : List Const → List (List ℕ) → Name → Result Instruction InstrError
formed consts parts name =
    if is_count (form_of name) (length parts) then ranged name (parameters_of consts (form_of name).constants parts)
    else Err errors.Syntax

abbrev pub named : List Const → List (List ℕ) → Option Name → Result Instruction InstrError
named consts parts None = Err errors.UnknownInstruction
named consts parts (Some name) = formed consts parts name

-- the names of instructions that this machine does not have
unfoldable pub unsupported : List (List ℕ)
unsupported =
    codes "ext2add" ∷ codes "ext2sub" ∷ codes "ext2mul" ∷ codes "ext2div" ∷ codes "ext2neg" ∷ codes "ext2inv"
    ∷ codes "fri_ext2fold4" ∷ codes "rcomb_base" ∷ codes "mtree_get" ∷ codes "mtree_set" ∷ codes "mtree_merge"
    ∷ codes "mtree_verify" ∷ codes "mem_stream" ∷ codes "adv_pipe" ∷ codes "dyncall"
    ∷ codes "breakpoint" ∷ codes "debug" ∷ codes "trace" ∷ codes "emit" ∷ codes "adv" ∷ codes "use" ∷ []

-- whether the first part of a token, or the whole token, is of an instruction that this machine does not have
unfoldable pub is_unsupported : List ℕ → List ℕ → Bool
is_unsupported token first = list_any (λ word. bytes_eq word first) unsupported || bytes_eq token (codes "exp")

-- a token with its parts
abbrev pub read_parts : List Const → List ℕ → List (List ℕ) → Result Instruction InstrError
read_parts consts token [] = Err errors.UnknownInstruction
read_parts consts token (first ∷ parts) =
    if is_unsupported token first then Err errors.Unsupported else named consts parts (name_of first)

-- the parts of a token
abbrev pub parts_of : List ℕ → List (List ℕ)
parts_of token = slice_split (λ b. b == 46) token

-- the instruction of a token, or the first of the refusals Unsupported, UnknownInstruction, Syntax and NumberRange
unfoldable pub read : List Const → List ℕ → Result Instruction InstrError
read consts token = read_parts consts token (parts_of token)
