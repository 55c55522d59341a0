-- A library (docs/ASSEMBLY.md, "The library"): procedures that a source may use though it does not define them. They stand behind
-- the source's own, so that what is said of a source is said of the source with them.
use Rattle.std.specs.Prelude.{ℕ, Bool, false, ◌&&◌, not, List, [], ◌∷◌, ◌++◌, map, Option, Some, None, Vec, bytes_eq, if◌then◌else◌}
use Rattle.std.specs.Global.{Global}
use Rattle.std.specs.List.{filter, flat_map, list_all, list_any}
use Rattle.vm_ops.specs.declared.item.Item.{Item}
use Rattle.masm_instr.specs.Instructions.{Instruction, is_in_form, names_local}
use Rattle.masm_expand.specs.Expansion.{expansion}
use Rattle.masm_tree.specs.declared.terminal.Leaf.TheVariants as leaves
use Rattle.masm_tree.specs.declared.tree.Position.{Position}
use Rattle.masm_tree.specs.Trees.{Body, Empty, Leaf_then, Procedure, Source}

pub record LibraryProcedure : Type 0 where
  pub name : List ℕ
  pub instructions : List Instruction

-- the operations of its instructions, one instruction's behind another's
abbrev pub operations_of : LibraryProcedure → List Item
operations_of p = flat_map (λ instr. expansion instr.name instr.numbers 0) p.instructions

-- An instruction may stand in a library: it is in form, and names no local.
abbrev pub is_plain : Instruction → Bool
is_plain instr = is_in_form instr.name instr.numbers && not (names_local instr.name)

-- each instruction of the library may
abbrev pub are_plain : List LibraryProcedure → Bool
are_plain library = list_all (λ p. list_all is_plain p.instructions) library

-- No token of a source spells a library's procedure.
abbrev pub nowhere : Position
nowhere = record { line = 0; column = 0 }

abbrev pub plain_body : List Instruction → Body
plain_body [] = Empty
plain_body (instr ∷ more) = Leaf_then nowhere (leaves.Instr instr) (plain_body more)

-- a library's procedure as one of a source
abbrev pub procedure_in : LibraryProcedure → Procedure
procedure_in p =
    record { name = p.name; locals = 0; exported = false; body = plain_body p.instructions; line = nowhere.line; column = nowhere.column }

abbrev pub is_among : List (List ℕ) → List ℕ → Bool
is_among names name = list_any (λ n. bytes_eq n name) names

-- whether a procedure of the library has the name
abbrev pub has_name : List LibraryProcedure → List ℕ → Bool
has_name library name = is_among (map (λ p. p.name) library) name

-- whether one of the source's own procedures has it
abbrev pub defines : List Procedure → List ℕ → Bool
defines procs name = is_among (map (λ p. p.name) procs) name

-- the library's first procedure of that name
abbrev pub first_in : List LibraryProcedure → List ℕ → Option LibraryProcedure
first_in [] name = None
first_in (p ∷ library) name = if bytes_eq p.name name then Some p else first_in library name

-- the library's procedures whose names the source does not define
abbrev pub undefined_in : List Procedure → List LibraryProcedure → List LibraryProcedure
undefined_in procs library = filter (λ p. not (defines procs p.name)) library

abbrev pub with_library : List LibraryProcedure → Source → Source
with_library library source = record {
  consts = source.consts;
  procs = source.procs ++ map procedure_in (undefined_in source.procs library);
  main = source.main;
}

-- a library in memory, as a map from names to instructions
abbrev pub library_of : List (Vec ℕ Global × Vec Instruction Global) → List LibraryProcedure
library_of entries = map (λ e. record { name = e.0.items; instructions = e.1.items }) entries
