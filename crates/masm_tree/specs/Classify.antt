-- What each token is: its terminal to the grammar, and the first cause for which it is refused by itself. Both depend on the
-- constants defined before it and on the locals of the procedure that began last, and on nothing else of the source.
use Rattle.std.specs.Prelude.{ℕ, Bool, true, false, ◌==◌, ◌&&◌, ◌||◌, nat_lt, nat_le, if◌then◌else◌, List, [], ◌∷◌, ◌++◌, length, slice_index, Option, Some, None, Result, Ok, Err, bytes_eq, codes}
use Rattle.std.specs.List.{list_all, slice_split}
use Rattle.answers.specs.Gives.{Gives}
use Rattle.vm_field.specs.Field.{prime}
use Rattle.masm_reading.specs.declared.constant.Const.{Const}
use Rattle.masm_reading.specs.declared.refusal.InstrError.{InstrError}
use Rattle.masm_instr.specs.Instructions.{Instruction, names_local}
use Rattle.masm_reading.specs.Numbers.{number}
use Rattle.masm_reading.specs.Reading.{parameter_of, parts_of, read}
use Rattle.masm_tree.specs.declared.refusal.Cause.{Cause}
use Rattle.masm_tree.specs.declared.refusal.Cause.TheVariants as causes
use Rattle.masm_tree.specs.declared.refusal.Stop.{Stop}
use Rattle.masm_tree.specs.declared.keyword.Keyword.{Keyword}
use Rattle.masm_tree.specs.declared.keyword.Keyword.TheVariants as keywords
use Rattle.masm_tree.specs.declared.parts.Case.{Case}
use Rattle.masm_tree.specs.declared.parts.Case.TheVariants.{Upper, Lower}
use Rattle.masm_tree.specs.declared.tree.Position.{Position}
use Rattle.masm_tree.specs.declared.terminal.Role.{Role}
use Rattle.masm_tree.specs.declared.terminal.Role.TheVariants as roles
use Rattle.masm_tree.specs.declared.terminal.Use.{Use}
use Rattle.masm_tree.specs.declared.terminal.Use.TheVariants as uses
use Rattle.masm_tree.specs.declared.terminal.Leaf.{Leaf}
use Rattle.masm_tree.specs.declared.terminal.Leaf.TheVariants as leaves
use Rattle.masm_tree.specs.declared.terminal.Terminal.{Terminal}
use Rattle.masm_tree.specs.declared.terminal.Terminal.TheVariants as terminals
use Rattle.masm_tree.specs.declared.terminal.Symbol.{Symbol}
use Rattle.masm_tree.specs.Causes.{cause_in, cause_of}
use Rattle.masm_tree.specs.Keywords.{keyword_of, is_kept_from_kernels}

-- what the tokens so far say of the next ones: the constants, and the count of locals
pub record Context : Type 0 where
  pub consts : List Const
  pub locals : ℕ

abbrev pub no_context : Context
no_context = record { consts = []; locals = 0 }

-- what is known behind a token
abbrev pub known_after : Context → Terminal → Context
known_after context (terminals.Const c) = record { consts = context.consts ++ c ∷ []; locals = context.locals }
known_after context (terminals.Header header) = record { consts = context.consts; locals = header.locals }
known_after context (terminals.Leaf at leaf) = context
known_after context (terminals.If at) = context
known_after context terminals.Else = context
known_after context (terminals.While at) = context
known_after context (terminals.Repeat at times) = context
known_after context terminals.End = context

-- Names: a letter, then letters, digits and _, all letters of one case, at most 100 bytes.
abbrev pub is_letter : Case → ℕ → Bool
is_letter Upper b = nat_le 65 b && nat_le b 90
is_letter Lower b = nat_le 97 b && nat_le b 122

abbrev pub is_name_byte : Case → ℕ → Bool
is_name_byte case b = is_letter case b || (nat_le 48 b && nat_le b 57) || (b == 95)

unfoldable pub is_name : Case → List ℕ → Bool
is_name case [] = false
is_name case (b ∷ bs) = is_letter case b && nat_lt (length bs) 100 && list_all (is_name_byte case) bs

-- const.NAME=v
abbrev pub valued : Position → List ℕ → Option ℕ → Result Terminal Cause
valued at name None = Err causes.Syntax
valued at name (Some v) =
    if nat_lt v prime then Ok (terminals.Const (record { name = name; value = v; line = at.line; column = at.column }))
    else Err causes.NumberRange

abbrev pub definition : Position → List (List ℕ) → Result Terminal Cause
definition at (name ∷ value ∷ []) = if is_name Upper name then valued at name (number value) else Err causes.Syntax
definition at other = Err causes.Syntax

unfoldable pub constant : Position → List (List ℕ) → Result Terminal Cause
constant at (part ∷ []) = definition at (slice_split (λ b. b == 61) part)
constant at other = Err causes.Syntax

-- proc.name, proc.name.n, and the same with export
abbrev pub count_of : Option ℕ → Result ℕ Cause
count_of None = Err causes.Syntax
count_of (Some n) = if nat_le n 65535 then Ok n else Err causes.LocalsRange

abbrev pub locals_of : List (List ℕ) → Result ℕ Cause
locals_of [] = Ok 0
locals_of (part ∷ []) = count_of (number part)
locals_of other = Err causes.Syntax

abbrev pub header_with : Role → Position → List ℕ → Result ℕ Cause → Result Terminal Cause
header_with role at name (Ok n) = Ok (terminals.Header (record { role = role; name = name; locals = n; at = at }))
header_with role at name (Err cause) = Err cause

unfoldable pub header : Role → Position → List (List ℕ) → Result Terminal Cause
header role at [] = Err causes.Syntax
header role at (name ∷ more) = if is_name Lower name then header_with role at name (locals_of more) else Err causes.Syntax

-- begin
abbrev pub main : Position → Terminal
main at = terminals.Header (record { role = roles.Main; name = codes "begin"; locals = 0; at = at })

-- a token of one part
abbrev pub alone : Terminal → List (List ℕ) → Result Terminal Cause
alone terminal [] = Ok terminal
alone terminal other = Err causes.Syntax

-- a token with the second part true, and no third
abbrev pub on_true : Terminal → List (List ℕ) → Result Terminal Cause
on_true terminal (part ∷ []) = if bytes_eq part (codes "true") then Ok terminal else Err causes.Syntax
on_true terminal other = Err causes.Syntax

-- repeat.n
abbrev pub repeated : Position → Option ℕ → Result Terminal Cause
repeated at None = Err causes.Syntax
repeated at (Some n) = if nat_le 1 n && nat_le n 10000 then Ok (terminals.Repeat at n) else Err causes.RepeatRange

unfoldable pub repetition : List Const → Position → List (List ℕ) → Result Terminal Cause
repetition consts at (part ∷ []) = repeated at (parameter_of consts true part)
repetition consts at other = Err causes.Syntax

-- exec.name, call.name, syscall.name, procref.name
abbrev pub used : Use → List ℕ → Leaf
used uses.Exec name = leaves.Exec name
used uses.Call name = leaves.Call name
used uses.Syscall name = leaves.Syscall name
used uses.ProcRef name = leaves.ProcRef name

unfoldable pub usage : Use → Position → List (List ℕ) → Result Terminal Cause
usage use_of at (name ∷ []) = if is_name Lower name then Ok (terminals.Leaf at (used use_of name)) else Err causes.Syntax
usage use_of at other = Err causes.Syntax

-- a token whose first part is a keyword, by its other parts
unfoldable pub phrase : Context → Position → List (List ℕ) → Keyword → Result Terminal Cause
phrase context at parts keywords.Const = constant at parts
phrase context at parts keywords.Proc = header roles.Proc at parts
phrase context at parts keywords.Export = header roles.Export at parts
phrase context at parts keywords.Begin = alone (main at) parts
phrase context at parts keywords.If = on_true (terminals.If at) parts
phrase context at parts keywords.Else = alone terminals.Else parts
phrase context at parts keywords.While = on_true (terminals.While at) parts
phrase context at parts keywords.Repeat = repetition context.consts at parts
phrase context at parts keywords.Exec = usage uses.Exec at parts
phrase context at parts keywords.Call = usage uses.Call at parts
phrase context at parts keywords.Syscall = usage uses.Syscall at parts
phrase context at parts keywords.ProcRef = usage uses.ProcRef at parts
phrase context at parts keywords.DynExec = alone (terminals.Leaf at leaves.DynExec) parts
phrase context at parts keywords.End = alone terminals.End parts

-- another token is an instruction; a local that it names must be one of the procedure's
abbrev pub is_no_local : Instruction → ℕ → Bool
is_no_local instr locals = names_local instr.name && nat_le locals (slice_index instr.numbers 0)

abbrev pub local_tested : ℕ → Position → Result Instruction InstrError → Result Terminal Cause
local_tested locals at (Ok instr) =
    if is_no_local instr locals then Err causes.LocalsRange else Ok (terminals.Leaf at (leaves.Instr instr))
local_tested locals at (Err error) = Err (cause_of error)

unfoldable pub instruction : Context → Position → List ℕ → Result Terminal Cause
instruction context at text = local_tested context.locals at (read context.consts text)

-- the terminal of a refused token
abbrev pub nameless : Role → Position → Terminal
nameless role at = terminals.Header (record { role = role; name = []; locals = 0; at = at })

abbrev pub blank : Position → Terminal
blank at = terminals.Leaf at (leaves.Exec [])

abbrev pub blank_of : Position → Keyword → Terminal
blank_of at keywords.Const = terminals.Const (record { name = []; value = 0; line = at.line; column = at.column })
blank_of at keywords.Proc = nameless roles.Proc at
blank_of at keywords.Export = nameless roles.Export at
blank_of at keywords.Begin = nameless roles.Main at
blank_of at keywords.If = terminals.If at
blank_of at keywords.Else = terminals.Else
blank_of at keywords.While = terminals.While at
blank_of at keywords.Repeat = terminals.Repeat at 0
blank_of at keywords.Exec = blank at
blank_of at keywords.Call = blank at
blank_of at keywords.Syscall = blank at
blank_of at keywords.ProcRef = blank at
blank_of at keywords.DynExec = blank at
blank_of at keywords.End = terminals.End

abbrev pub symbol_with : Terminal → Result Terminal Cause → Symbol
symbol_with refused (Ok terminal) = record { terminal = terminal; fault = None }
symbol_with refused (Err cause) = record { terminal = refused; fault = Some cause }

-- a token whose first part is a keyword
unfoldable pub classify_keyword : Bool → Context → Position → List (List ℕ) → Keyword → Symbol
classify_keyword kernel context at parts keyword =
    symbol_with (blank_of at keyword)
    (if kernel && is_kept_from_kernels keyword then Err causes.KernelBody else phrase context at parts keyword)

unfoldable pub classify_instruction : Context → Position → List ℕ → Symbol
classify_instruction context at text = symbol_with (blank at) (instruction context at text)

abbrev pub classify_known : Bool → Context → Position → List ℕ → List (List ℕ) → Option Keyword → Symbol
classify_known kernel context at text parts None = classify_instruction context at text
classify_known kernel context at text parts (Some keyword) = classify_keyword kernel context at parts keyword

abbrev pub classify_parts : Bool → Context → Position → List ℕ → List (List ℕ) → Symbol
classify_parts kernel context at text [] = classify_instruction context at text
classify_parts kernel context at text (first ∷ parts) = classify_known kernel context at text parts (keyword_of first)

unfoldable pub classify : Bool → Context → Position → List ℕ → Symbol
classify kernel context at text = classify_parts kernel context at text (parts_of text)

-- a reader's answer is the terminal of the definition, or the cause for which it has none
abbrev pub GivesTerminal : Result Terminal Stop → Result Terminal Cause → Type 0
GivesTerminal answer defined = Gives (λ x. x) cause_in answer defined
