-- Each local that a token names, where it is not refused, is one of the procedure's.
use Rattle.std.proofs.Common.{◌≡◌, ℕ, Bool, true, false, ◌&&◌, cond, List, [], ◌∷◌, Option, Some, None, Result, Ok, Err, refl, nat_le, nat_lt, leb-false, bytes_eq, codes, ◌==◌}
use Rattle.std.specs.List.{slice_split}
use Rattle.vm_field.specs.Field.{prime}
use Rattle.masm_reading.specs.declared.constant.Const.{Const}
use Rattle.masm_reading.specs.declared.refusal.InstrError.{InstrError}
use Rattle.masm_reading.specs.Numbers.{number}
use Rattle.masm_reading.specs.Reading.{read, parts_of, parameter_of}
use Rattle.masm_instr.specs.Instructions.{Instruction, HasLocal}
use Rattle.masm_tree.specs.declared.keyword.Keyword.{Keyword}
use Rattle.masm_tree.specs.declared.keyword.Keyword.TheVariants as keywords
use Rattle.masm_tree.specs.declared.parts.Case.TheVariants.{Upper, Lower}
use Rattle.masm_tree.specs.declared.refusal.Cause.{Cause}
use Rattle.masm_tree.specs.declared.refusal.Cause.TheVariants as causes
use Rattle.masm_tree.specs.declared.terminal.Leaf.TheVariants as leaves
use Rattle.masm_tree.specs.declared.terminal.Role.{Role}
use Rattle.masm_tree.specs.declared.terminal.Role.TheVariants as roles
use Rattle.masm_tree.specs.declared.terminal.Symbol.{Symbol}
use Rattle.masm_tree.specs.declared.terminal.Terminal.{Terminal}
use Rattle.masm_tree.specs.declared.terminal.Terminal.TheVariants as terminals
use Rattle.masm_tree.specs.declared.terminal.Use.{Use}
use Rattle.masm_tree.specs.declared.terminal.Use.TheVariants as uses
use Rattle.masm_tree.specs.declared.tree.Position.{Position}
use Rattle.masm_tree.specs.Classify.{Context, symbol_with, local_tested, is_no_local, instruction, classify_instruction, classify_keyword, classify_known, classify_parts, classify, phrase, usage, used, valued, definition, constant, header_with, header, locals_of, alone, on_true, repeated, repetition, main, is_name}
use Rattle.masm_tree.specs.Keywords.{keyword_of, is_kept_from_kernels}
use Rattle.masm_tree.specs.Locals.{LeafFits}

-- what is held of a terminal that is not refused
abbrev pub TerminalFits : ℕ → Terminal → Type 0
TerminalFits locals (terminals.Leaf at leaf) = LeafFits locals leaf
TerminalFits locals terminal = Unit {0}

-- What a symbol says, where it is not refused.
abbrev pub SymbolFits : ℕ → Symbol → Type 0
SymbolFits locals symbol = symbol.fault ≡ None → TerminalFits locals symbol.terminal

no-local : (instr : Instruction) (locals : ℕ) → is_no_local instr locals ≡ false → HasLocal instr locals
no-local instr locals is named = leb-false locals _ (rw named at is)

fits-tested : (locals : ℕ) (at : Position) (refused : Terminal) (r : Result Instruction InstrError)
    → SymbolFits locals (symbol_with refused (local_tested locals at r))
fits-tested locals at refused (Ok instr) fine =
    elim (is_no_local instr locals) as (λ b. is_no_local instr locals ≡ b
    → (symbol_with refused (cond b (Err causes.LocalsRange) (Ok (terminals.Leaf at (leaves.Instr instr))))).fault ≡ None
    → TerminalFits locals (symbol_with refused
    (cond b (Err causes.LocalsRange) (Ok (terminals.Leaf at (leaves.Instr instr))))).terminal) [
      | true ↦ λ is no. cc
      | false ↦ λ is none. no-local instr locals is
    ] refl fine
fits-tested locals at refused (Err error) fine = cc

-- a reading whose terminal, if it has one, names no local
abbrev pub NamesNone : Result Terminal Cause → Type 0
NamesNone (Ok terminal) = (locals : ℕ) → TerminalFits locals terminal
NamesNone (Err cause) = Unit {0}

none-if : (b : Bool) (x y : Result Terminal Cause) → NamesNone x → NamesNone y → NamesNone (cond b x y)
none-if true x y h k = h
none-if false x y h k = k

none-valued : (at : Position) (name : List ℕ) (v : Option ℕ) → NamesNone (valued at name v)
none-valued at name None = tt
none-valued at name (Some v) = none-if (nat_lt v prime) _ _ (λ n. tt) tt

none-definition : (at : Position) (parts : List (List ℕ)) → NamesNone (definition at parts)
none-definition at (name ∷ value ∷ []) = none-if (is_name Upper name) _ _ (none-valued at name (number value)) tt
none-definition at parts = tt

none-constant : (at : Position) (parts : List (List ℕ)) → NamesNone (constant at parts)
unfolding constant
none-constant at (part ∷ []) = none-definition at (slice_split (λ b. b == 61) part)
none-constant at parts = tt

none-header_with : (role : Role) (at : Position) (name : List ℕ) (n : Result ℕ Cause) → NamesNone (header_with role at name n)
none-header_with role at name (Ok n) = λ m. tt
none-header_with role at name (Err cause) = tt

none-header : (role : Role) (at : Position) (parts : List (List ℕ)) → NamesNone (header role at parts)
unfolding header
none-header role at [] = tt
none-header role at (name ∷ more) = none-if (is_name Lower name) _ _ (none-header_with role at name (locals_of more)) tt

none-alone : (terminal : Terminal) (parts : List (List ℕ)) → ((n : ℕ) → TerminalFits n terminal) → NamesNone (alone terminal parts)
none-alone terminal [] h = h
none-alone terminal (part ∷ parts) h = tt

none-on_true : (terminal : Terminal) (parts : List (List ℕ)) → ((n : ℕ) → TerminalFits n terminal) → NamesNone (on_true terminal parts)
none-on_true terminal (part ∷ []) h = none-if (bytes_eq part (codes "true")) _ _ h tt
none-on_true terminal parts h = tt

none-repeated : (at : Position) (n : Option ℕ) → NamesNone (repeated at n)
none-repeated at None = tt
none-repeated at (Some n) = none-if (nat_le 1 n && nat_le n 10000) _ _ (λ m. tt) tt

none-repetition : (consts : List Const) (at : Position) (parts : List (List ℕ)) → NamesNone (repetition consts at parts)
unfolding repetition
none-repetition consts at (part ∷ []) = none-repeated at (parameter_of consts true part)
none-repetition consts at parts = tt

none-used : (k : Use) (name : List ℕ) (locals : ℕ) → LeafFits locals (used k name)
none-used uses.Exec name locals = tt
none-used uses.Call name locals = tt
none-used uses.Syscall name locals = tt
none-used uses.ProcRef name locals = tt

none-usage : (k : Use) (at : Position) (parts : List (List ℕ)) → NamesNone (usage k at parts)
unfolding usage
none-usage k at (name ∷ []) = none-if (is_name Lower name) _ _ (none-used k name) tt
none-usage k at parts = tt

none-phrase : (context : Context) (at : Position) (parts : List (List ℕ)) (k : Keyword) → NamesNone (phrase context at parts k)
unfolding phrase
none-phrase context at parts keywords.Const = none-constant at parts
none-phrase context at parts keywords.Proc = none-header roles.Proc at parts
none-phrase context at parts keywords.Export = none-header roles.Export at parts
none-phrase context at parts keywords.Begin = none-alone (main at) parts (λ n. tt)
none-phrase context at parts keywords.If = none-on_true (terminals.If at) parts (λ n. tt)
none-phrase context at parts keywords.Else = none-alone terminals.Else parts (λ n. tt)
none-phrase context at parts keywords.While = none-on_true (terminals.While at) parts (λ n. tt)
none-phrase context at parts keywords.Repeat = none-repetition context.consts at parts
none-phrase context at parts keywords.Exec = none-usage uses.Exec at parts
none-phrase context at parts keywords.Call = none-usage uses.Call at parts
none-phrase context at parts keywords.Syscall = none-usage uses.Syscall at parts
none-phrase context at parts keywords.ProcRef = none-usage uses.ProcRef at parts
none-phrase context at parts keywords.DynExec = none-alone (terminals.Leaf at leaves.DynExec) parts (λ n. tt)
none-phrase context at parts keywords.End = none-alone terminals.End parts (λ n. tt)

none-symbol_with : (locals : ℕ) (refused : Terminal) (r : Result Terminal Cause) → NamesNone r → SymbolFits locals (symbol_with refused r)
none-symbol_with locals refused (Ok terminal) h fine = h locals
none-symbol_with locals refused (Err cause) h fine = cc

-- a token that is a keyword names no local
fits-keyword : (kernel : Bool) (context : Context) (at : Position) (parts : List (List ℕ)) (k : Keyword)
    → SymbolFits context.locals (classify_keyword kernel context at parts k)
unfolding classify_keyword
fits-keyword kernel context at parts k =
    none-symbol_with context.locals _ _ (none-if (kernel && is_kept_from_kernels k) _ _ tt (none-phrase context at parts k))

fits-known : (kernel : Bool) (context : Context) (at : Position) (text : List ℕ) (parts : List (List ℕ)) (k : Option Keyword)
    → SymbolFits context.locals (classify_known kernel context at text parts k)
unfolding classify_instruction instruction
fits-known kernel context at text parts None = fits-tested context.locals at _ (read context.consts text)
fits-known kernel context at text parts (Some k) = fits-keyword kernel context at parts k

fits-parts : (kernel : Bool) (context : Context) (at : Position) (text : List ℕ) (parts : List (List ℕ))
    → SymbolFits context.locals (classify_parts kernel context at text parts)
unfolding classify_instruction instruction
fits-parts kernel context at text [] = fits-tested context.locals at _ (read context.consts text)
fits-parts kernel context at text (first ∷ parts) = fits-known kernel context at text parts (keyword_of first)

pub fits-symbol : (kernel : Bool) (context : Context) (at : Position) (text : List ℕ) → SymbolFits context.locals (classify kernel context at text)
unfolding classify
fits-symbol kernel context at text = fits-parts kernel context at text (parts_of text)
