-- What a token is has the token's place.
use Rattle.std.proofs.Common.{◌≡◌, ℕ, Bool, true, false, ◌&&◌, cond, List, [], ◌∷◌, Option, Some, None, Result, Ok, Err, refl, ◌⊎◌, inl, inr, nat_le, nat_lt, bytes_eq, codes, ◌==◌}
use Rattle.std.specs.List.{slice_split}
use Rattle.vm_field.specs.Field.{prime}
use Rattle.masm_reading.specs.declared.constant.Const.{Const}
use Rattle.masm_reading.specs.declared.refusal.InstrError.{InstrError}
use Rattle.masm_instr.specs.Instructions.{Instruction}
use Rattle.masm_reading.specs.Numbers.{number}
use Rattle.masm_reading.specs.Reading.{read, parts_of, parameter_of}
use Rattle.masm_tree.specs.declared.parts.Case.TheVariants.{Upper, Lower}
use Rattle.masm_tree.specs.declared.keyword.Keyword.{Keyword}
use Rattle.masm_tree.specs.declared.keyword.Keyword.TheVariants as keywords
use Rattle.masm_tree.specs.declared.refusal.Cause.{Cause}
use Rattle.masm_tree.specs.declared.terminal.Role.{Role}
use Rattle.masm_tree.specs.declared.terminal.Leaf.TheVariants as leaves
use Rattle.masm_tree.specs.declared.terminal.Role.TheVariants as roles
use Rattle.masm_tree.specs.declared.terminal.Terminal.{Terminal}
use Rattle.masm_tree.specs.declared.terminal.Terminal.TheVariants as terminals
use Rattle.masm_tree.specs.declared.terminal.Use.{Use}
use Rattle.masm_tree.specs.declared.terminal.Use.TheVariants as uses
use Rattle.masm_tree.specs.declared.tree.Position.{Position}
use Rattle.masm_tree.specs.Terminals.{constants, const_positions, terminal_positions}
use Rattle.masm_tree.specs.Keywords.{keyword_of, is_kept_from_kernels}
use Rattle.masm_tree.specs.Classify.{Context, symbol_with, local_tested, is_no_local, instruction, classify_instruction, classify_keyword, classify_known, classify_parts, classify, phrase, usage, valued, definition, constant, header_with, header, locals_of, alone, on_true, repeated, repetition, main, is_name, blank_of}

-- some places are none, or the token's alone
abbrev pub AreAt : Position → List Position → Type 0
AreAt at places = (places ≡ []) ⊎ (places ≡ at ∷ [])

-- the places that a terminal adds, among the constants and among the procedures and statements
pub record IsAt (at : Position) (terminal : Terminal) : Type 0 where
  pub consts : AreAt at (const_positions (constants (terminal ∷ [])))
  pub procs : AreAt at (terminal_positions terminal)

abbrev pub IsAtIf : Position → Result Terminal Cause → Type 0
IsAtIf at (Ok terminal) = IsAt at terminal
IsAtIf at (Err cause) = Unit {0}

at-if : (at : Position) (b : Bool) (x y : Result Terminal Cause) → IsAtIf at x → IsAtIf at y → IsAtIf at (cond b x y)
at-if at true x y h k = h
at-if at false x y h k = k

at-valued : (at : Position) (name : List ℕ) (v : Option ℕ) → IsAtIf at (valued at name v)
at-valued at name None = tt
at-valued at name (Some v) = at-if at (nat_lt v prime) _ _ (record { consts = inr refl; procs = inl refl }) tt

at-definition : (at : Position) (parts : List (List ℕ)) → IsAtIf at (definition at parts)
at-definition at (name ∷ value ∷ []) = at-if at (is_name Upper name) _ _ (at-valued at name (number value)) tt
at-definition at parts = tt

at-constant : (at : Position) (parts : List (List ℕ)) → IsAtIf at (constant at parts)
unfolding constant
at-constant at (part ∷ []) = at-definition at (slice_split (λ b. b == 61) part)
at-constant at parts = tt

at-header_with : (role : Role) (at : Position) (name : List ℕ) (n : Result ℕ Cause) → IsAtIf at (header_with role at name n)
at-header_with role at name (Ok n) = record { consts = inl refl; procs = inr refl }
at-header_with role at name (Err cause) = tt

at-header : (role : Role) (at : Position) (parts : List (List ℕ)) → IsAtIf at (header role at parts)
unfolding header
at-header role at [] = tt
at-header role at (name ∷ more) = at-if at (is_name Lower name) _ _ (at-header_with role at name (locals_of more)) tt

at-alone : (at : Position) (terminal : Terminal) (parts : List (List ℕ)) → IsAt at terminal → IsAtIf at (alone terminal parts)
at-alone at terminal [] h = h
at-alone at terminal (part ∷ parts) h = tt

at-on_true : (at : Position) (terminal : Terminal) (parts : List (List ℕ)) → IsAt at terminal → IsAtIf at (on_true terminal parts)
at-on_true at terminal (part ∷ []) h = at-if at (bytes_eq part (codes "true")) _ _ h tt
at-on_true at terminal parts h = tt

at-repeated : (at : Position) (n : Option ℕ) → IsAtIf at (repeated at n)
at-repeated at None = tt
at-repeated at (Some n) = at-if at (nat_le 1 n && nat_le n 10000) _ _ (record { consts = inl refl; procs = inr refl }) tt

at-repetition : (consts : List Const) (at : Position) (parts : List (List ℕ)) → IsAtIf at (repetition consts at parts)
unfolding repetition
at-repetition consts at (part ∷ []) = at-repeated at (parameter_of consts true part)
at-repetition consts at parts = tt

at-usage : (k : Use) (at : Position) (parts : List (List ℕ)) → IsAtIf at (usage k at parts)
unfolding usage
at-usage k at (name ∷ []) = at-if at (is_name Lower name) _ _ (record { consts = inl refl; procs = inr refl }) tt
at-usage k at parts = tt

at-phrase : (context : Context) (at : Position) (parts : List (List ℕ)) (k : Keyword) → IsAtIf at (phrase context at parts k)
unfolding phrase
at-phrase context at parts keywords.Const = at-constant at parts
at-phrase context at parts keywords.Proc = at-header roles.Proc at parts
at-phrase context at parts keywords.Export = at-header roles.Export at parts
at-phrase context at parts keywords.Begin = at-alone at (main at) parts (record { consts = inl refl; procs = inr refl })
at-phrase context at parts keywords.If = at-on_true at (terminals.If at) parts (record { consts = inl refl; procs = inr refl })
at-phrase context at parts keywords.Else = at-alone at terminals.Else parts (record { consts = inl refl; procs = inl refl })
at-phrase context at parts keywords.While = at-on_true at (terminals.While at) parts (record { consts = inl refl; procs = inr refl })
at-phrase context at parts keywords.Repeat = at-repetition context.consts at parts
at-phrase context at parts keywords.Exec = at-usage uses.Exec at parts
at-phrase context at parts keywords.Call = at-usage uses.Call at parts
at-phrase context at parts keywords.Syscall = at-usage uses.Syscall at parts
at-phrase context at parts keywords.ProcRef = at-usage uses.ProcRef at parts
at-phrase context at parts keywords.DynExec =
    at-alone at (terminals.Leaf at leaves.DynExec) parts (record { consts = inl refl; procs = inr refl })
at-phrase context at parts keywords.End = at-alone at terminals.End parts (record { consts = inl refl; procs = inl refl })

at-tested : (locals : ℕ) (at : Position) (r : Result Instruction InstrError) → IsAtIf at (local_tested locals at r)
at-tested locals at (Ok instr) = at-if at (is_no_local instr locals) _ _ tt (record { consts = inl refl; procs = inr refl })
at-tested locals at (Err error) = tt

at-blank : (at : Position) (k : Keyword) → IsAt at (blank_of at k)
at-blank at keywords.Const = record { consts = inr refl; procs = inl refl }
at-blank at keywords.Else = record { consts = inl refl; procs = inl refl }
at-blank at keywords.End = record { consts = inl refl; procs = inl refl }
at-blank at k = record { consts = inl refl; procs = inr refl }

at-symbol_with : (at : Position) (refused : Terminal) (r : Result Terminal Cause) → IsAt at refused → IsAtIf at r
    → IsAt at (symbol_with refused r).terminal
at-symbol_with at refused (Ok terminal) h k = k
at-symbol_with at refused (Err cause) h k = h

at-keyword : (kernel : Bool) (context : Context) (at : Position) (parts : List (List ℕ)) (k : Keyword)
    → IsAt at (classify_keyword kernel context at parts k).terminal
unfolding classify_keyword
at-keyword kernel context at parts k =
    at-symbol_with at _ _ (at-blank at k) (at-if at (kernel && is_kept_from_kernels k) _ _ tt (at-phrase context at parts k))

at-instruction : (context : Context) (at : Position) (text : List ℕ) → IsAt at (classify_instruction context at text).terminal
unfolding classify_instruction instruction
at-instruction context at text =
    at-symbol_with at _ _ (record { consts = inl refl; procs = inr refl }) (at-tested context.locals at (read context.consts text))

at-known : (kernel : Bool) (context : Context) (at : Position) (text : List ℕ) (parts : List (List ℕ)) (k : Option Keyword)
    → IsAt at (classify_known kernel context at text parts k).terminal
at-known kernel context at text parts None = at-instruction context at text
at-known kernel context at text parts (Some k) = at-keyword kernel context at parts k

at-parts : (kernel : Bool) (context : Context) (at : Position) (text : List ℕ) (parts : List (List ℕ))
    → IsAt at (classify_parts kernel context at text parts).terminal
at-parts kernel context at text [] = at-instruction context at text
at-parts kernel context at text (first ∷ parts) = at-known kernel context at text parts (keyword_of first)

-- a token adds no place but its own
pub at-symbol : (kernel : Bool) (context : Context) (at : Position) (text : List ℕ) → IsAt at (classify kernel context at text).terminal
unfolding classify
at-symbol kernel context at text = at-parts kernel context at text (parts_of text)
