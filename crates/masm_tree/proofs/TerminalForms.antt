-- What a token is read as is in form.
use Rattle.std.proofs.Common.{◌≡◌, ℕ, ◌≤◌, Bool, true, false, ◌&&◌, cond, List, [], ◌∷◌, Option, Some, None, Result, Ok, Err, refl, nat_le, nat_lt, leb-true, bytes_eq, codes, ◌==◌, arith}
use Rattle.std.specs.List.{slice_split}
use Rattle.vm_field.specs.Field.{prime}
use Rattle.masm_reading.specs.declared.constant.Const.{Const}
use Rattle.masm_reading.specs.declared.refusal.InstrError.{InstrError}
use Rattle.masm_reading.specs.Numbers.{number}
use Rattle.masm_reading.specs.Reading.{read, parts_of, parameter_of}
use Rattle.masm_reading.proofs.InForm.{IsInFormIf, read-in_form}
use Rattle.masm_instr.specs.Instructions.{Instruction}
use Rattle.masm_tree.specs.declared.keyword.Keyword.{Keyword}
use Rattle.masm_tree.specs.declared.keyword.Keyword.TheVariants as keywords
use Rattle.masm_tree.specs.declared.parts.Case.TheVariants.{Upper, Lower}
use Rattle.masm_tree.specs.declared.refusal.Cause.{Cause}
use Rattle.masm_tree.specs.declared.refusal.Cause.TheVariants as causes
use Rattle.masm_tree.specs.declared.terminal.Role.{Role}
use Rattle.masm_tree.specs.declared.terminal.Leaf.TheVariants as leaves
use Rattle.masm_tree.specs.declared.terminal.Role.TheVariants as roles
use Rattle.masm_tree.specs.declared.terminal.Terminal.{Terminal}
use Rattle.masm_tree.specs.declared.terminal.Terminal.TheVariants as terminals
use Rattle.masm_tree.specs.declared.terminal.Use.{Use}
use Rattle.masm_tree.specs.declared.terminal.Use.TheVariants as uses
use Rattle.masm_tree.specs.declared.tree.Position.{Position}
use Rattle.masm_tree.specs.Classify.{Context, symbol_with, local_tested, is_no_local, instruction, classify_instruction, classify_keyword, classify_known, classify_parts, classify, phrase, usage, used, valued, definition, constant, count_of, header_with, header, locals_of, alone, on_true, repeated, repetition, main, is_name, blank, blank_of}
use Rattle.masm_tree.specs.Forms.{LeafIsInForm}
use Rattle.masm_tree.specs.Keywords.{keyword_of, is_kept_from_kernels}

abbrev pub TerminalIsInForm : Terminal → Type 0
TerminalIsInForm (terminals.Leaf at leaf) = LeafIsInForm leaf
TerminalIsInForm (terminals.Header header) = header.locals ≤ 65535
TerminalIsInForm terminal = Unit {0}

abbrev TerminalIsInFormIf : Result Terminal Cause → Type 0
TerminalIsInFormIf (Ok terminal) = TerminalIsInForm terminal
TerminalIsInFormIf (Err cause) = Unit {0}

form-if : (b : Bool) (x y : Result Terminal Cause) → TerminalIsInFormIf x → TerminalIsInFormIf y → TerminalIsInFormIf (cond b x y)
form-if true x y h k = h
form-if false x y h k = k

form-local : (locals : ℕ) (at : Position) (r : Result Instruction InstrError) → IsInFormIf r → TerminalIsInFormIf (local_tested locals at r)
form-local locals at (Ok instr) h = form-if (is_no_local instr locals) _ _ tt h
form-local locals at (Err error) h = tt

form-valued : (at : Position) (name : List ℕ) (v : Option ℕ) → TerminalIsInFormIf (valued at name v)
form-valued at name None = tt
form-valued at name (Some v) = form-if (nat_lt v prime) _ _ tt tt

form-definition : (at : Position) (parts : List (List ℕ)) → TerminalIsInFormIf (definition at parts)
form-definition at (name ∷ value ∷ []) = form-if (is_name Upper name) _ _ (form-valued at name (number value)) tt
form-definition at parts = tt

form-constant : (at : Position) (parts : List (List ℕ)) → TerminalIsInFormIf (constant at parts)
unfolding constant
form-constant at (part ∷ []) = form-definition at (slice_split (λ b. b == 61) part)
form-constant at parts = tt

abbrev IsFewIf : Result ℕ Cause → Type 0
IsFewIf (Ok n) = n ≤ 65535
IsFewIf (Err cause) = Unit {0}

count-if : (n : ℕ) (b : Bool) → nat_le n 65535 ≡ b → IsFewIf (cond b (Ok n) (Err causes.LocalsRange))
count-if n true is = leb-true n 65535 is
count-if n false is = tt

form-count : (o : Option ℕ) → IsFewIf (count_of o)
form-count None = tt
form-count (Some n) = count-if n (nat_le n 65535) refl

form-locals : (parts : List (List ℕ)) → IsFewIf (locals_of parts)
form-locals [] = omega arith
form-locals (part ∷ []) = form-count (number part)
form-locals parts = tt

form-header_with : (role : Role) (at : Position) (name : List ℕ) (n : Result ℕ Cause) → IsFewIf n → TerminalIsInFormIf (header_with role at name n)
form-header_with role at name (Ok n) h = h
form-header_with role at name (Err cause) h = tt

form-header : (role : Role) (at : Position) (parts : List (List ℕ)) → TerminalIsInFormIf (header role at parts)
unfolding header
form-header role at [] = tt
form-header role at (name ∷ more) = form-if (is_name Lower name) _ _ (form-header_with role at name (locals_of more) (form-locals more)) tt

form-alone : (terminal : Terminal) (parts : List (List ℕ)) → TerminalIsInForm terminal → TerminalIsInFormIf (alone terminal parts)
form-alone terminal [] h = h
form-alone terminal (part ∷ parts) h = tt

form-on_true : (terminal : Terminal) (parts : List (List ℕ)) → TerminalIsInForm terminal → TerminalIsInFormIf (on_true terminal parts)
form-on_true terminal (part ∷ []) h = form-if (bytes_eq part (codes "true")) _ _ h tt
form-on_true terminal parts h = tt

form-repeated : (at : Position) (n : Option ℕ) → TerminalIsInFormIf (repeated at n)
form-repeated at None = tt
form-repeated at (Some n) = form-if (nat_le 1 n && nat_le n 10000) _ _ tt tt

form-repetition : (consts : List Const) (at : Position) (parts : List (List ℕ)) → TerminalIsInFormIf (repetition consts at parts)
unfolding repetition
form-repetition consts at (part ∷ []) = form-repeated at (parameter_of consts true part)
form-repetition consts at parts = tt

form-used : (k : Use) (name : List ℕ) → LeafIsInForm (used k name)
form-used uses.Exec name = tt
form-used uses.Call name = tt
form-used uses.Syscall name = tt
form-used uses.ProcRef name = tt

form-usage : (k : Use) (at : Position) (parts : List (List ℕ)) → TerminalIsInFormIf (usage k at parts)
unfolding usage
form-usage k at (name ∷ []) = form-if (is_name Lower name) _ _ (form-used k name) tt
form-usage k at parts = tt

form-phrase : (context : Context) (at : Position) (parts : List (List ℕ)) (k : Keyword) → TerminalIsInFormIf (phrase context at parts k)
unfolding phrase
form-phrase context at parts keywords.Const = form-constant at parts
form-phrase context at parts keywords.Proc = form-header roles.Proc at parts
form-phrase context at parts keywords.Export = form-header roles.Export at parts
form-phrase context at parts keywords.Begin = form-alone (main at) parts (omega arith)
form-phrase context at parts keywords.If = form-on_true (terminals.If at) parts tt
form-phrase context at parts keywords.Else = form-alone terminals.Else parts tt
form-phrase context at parts keywords.While = form-on_true (terminals.While at) parts tt
form-phrase context at parts keywords.Repeat = form-repetition context.consts at parts
form-phrase context at parts keywords.Exec = form-usage uses.Exec at parts
form-phrase context at parts keywords.Call = form-usage uses.Call at parts
form-phrase context at parts keywords.Syscall = form-usage uses.Syscall at parts
form-phrase context at parts keywords.ProcRef = form-usage uses.ProcRef at parts
form-phrase context at parts keywords.DynExec = form-alone (terminals.Leaf at leaves.DynExec) parts tt
form-phrase context at parts keywords.End = form-alone terminals.End parts tt

form-symbol : (refused : Terminal) (r : Result Terminal Cause) → TerminalIsInForm refused → TerminalIsInFormIf r
    → TerminalIsInForm (symbol_with refused r).terminal
form-symbol refused (Ok terminal) k h = h
form-symbol refused (Err cause) k h = k

form-blank : (at : Position) (k : Keyword) → TerminalIsInForm (blank_of at k)
form-blank at keywords.Const = tt
form-blank at keywords.Proc = omega arith
form-blank at keywords.Export = omega arith
form-blank at keywords.Begin = omega arith
form-blank at keywords.If = tt
form-blank at keywords.Else = tt
form-blank at keywords.While = tt
form-blank at keywords.Repeat = tt
form-blank at keywords.Exec = tt
form-blank at keywords.Call = tt
form-blank at keywords.Syscall = tt
form-blank at keywords.ProcRef = tt
form-blank at keywords.DynExec = tt
form-blank at keywords.End = tt

form-keyword : (kernel : Bool) (context : Context) (at : Position) (parts : List (List ℕ)) (k : Keyword)
    → TerminalIsInForm (classify_keyword kernel context at parts k).terminal
unfolding classify_keyword
form-keyword kernel context at parts k =
    form-symbol (blank_of at k) _ (form-blank at k) (form-if (kernel && is_kept_from_kernels k) _ _ tt (form-phrase context at parts k))

form-instruction : (context : Context) (at : Position) (text : List ℕ) → TerminalIsInForm (classify_instruction context at text).terminal
unfolding classify_instruction instruction
form-instruction context at text =
    form-symbol (blank at) _ tt (form-local context.locals at (read context.consts text) (read-in_form context.consts text))

form-known : (kernel : Bool) (context : Context) (at : Position) (text : List ℕ) (parts : List (List ℕ)) (k : Option Keyword)
    → TerminalIsInForm (classify_known kernel context at text parts k).terminal
form-known kernel context at text parts None = form-instruction context at text
form-known kernel context at text parts (Some k) = form-keyword kernel context at parts k

form-parts : (kernel : Bool) (context : Context) (at : Position) (text : List ℕ) (parts : List (List ℕ))
    → TerminalIsInForm (classify_parts kernel context at text parts).terminal
form-parts kernel context at text [] = form-instruction context at text
form-parts kernel context at text (first ∷ parts) = form-known kernel context at text parts (keyword_of first)

pub form-classified : (kernel : Bool) (context : Context) (at : Position) (text : List ℕ)
    → TerminalIsInForm (classify kernel context at text).terminal
unfolding classify
form-classified kernel context at text = form-parts kernel context at text (parts_of text)
