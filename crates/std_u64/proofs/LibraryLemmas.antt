-- The procedures in the library.
use Rattle.std.proofs.Common.{◌≡◌, ◌↔◌, ℕ, zero, suc, ◌<◌, Bool, true, false, ◌&&◌, List, [], ◌∷◌, map, length, get_or, Some, refl, subst, arith}
use Rattle.std.specs.List.{list_all}
use Rattle.masm_flat.specs.Blocks.{Operation}
use Rattle.masm_flat.specs.Lists.{ListOf}
use Rattle.masm_link.specs.Libraries.{is_plain, are_plain, first_in, operations_of, with_library}
use Rattle.masm_link.proofs.LibraryLemmas.{libraries_are_behind}
use Rattle.std_u64.specs.declared.names.U64Procedure.{U64Procedure}
use Rattle.std_u64.specs.declared.names.U64Procedure.TheVariants as procedures
use Rattle.std_u64.specs.declared.table.Step.{Step}
use Rattle.std_u64.specs.Libraries.{library_procedure, u64_library, NamesMeanOperations}
use Rattle.std_u64.specs.Lists.{instructions, name_of_procedure, operations}
use Rattle.std_u64.specs.Table.{instruction_of}

pub has : (procedure : U64Procedure) → first_in u64_library (name_of_procedure procedure) ≡ Some (library_procedure procedure)
unfolding u64_library
has procedures.OverflowingAdd = refl
has procedure = refl

pub lists : (procedure : U64Procedure) → operations_of (library_procedure procedure) ≡ operations procedure
unfolding operations
lists procedure = refl

pub plain : are_plain u64_library ≡ true
unfolding u64_library
plain = refl

pub plain_instructions : (procedure : U64Procedure) → list_all is_plain (instructions procedure) ≡ true
plain_instructions procedures.OverflowingAdd = refl
plain_instructions procedure = refl

pub names_mean_operations : NamesMeanOperations
names_mean_operations source out procedure xs none =
    subst (λ items. ListOf (with_library u64_library source) out (name_of_procedure procedure) xs ↔ (xs ≡ map Operation items)) (lists procedure)
    ((libraries_are_behind u64_library source).list out (name_of_procedure procedure) (library_procedure procedure) xs none (has procedure))

both_true : (a b : Bool) → (a && b) ≡ true → (a ≡ true) × (b ≡ true)
both_true true b e = (refl, e)
both_true false b e = cc

-- each instruction of a table
pub plain_at : (steps : List Step) (i : ℕ) (d : Step) → list_all is_plain (map instruction_of steps) ≡ true → i < length steps
    → is_plain (instruction_of (get_or steps i d)) ≡ true
plain_at [] i d all low = absurd (omega arith)
plain_at (step ∷ steps) zero d all low = (both_true (is_plain (instruction_of step)) (list_all is_plain (map instruction_of steps)) all).0
plain_at (step ∷ steps) (suc i) d all low =
    plain_at steps i d (both_true (is_plain (instruction_of step)) (list_all is_plain (map instruction_of steps)) all).1 (omega arith)
