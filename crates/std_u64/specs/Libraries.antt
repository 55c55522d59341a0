-- The procedures on numbers of 64 bits as a library of sources.
use Rattle.std.specs.Prelude.{◌≡◌, ◌↔◌, List, [], ◌∷◌, map, None}
use Rattle.masm_tree.specs.Trees.{Source}
use Rattle.masm_flat.specs.Blocks.{Block, Piece, Operation}
use Rattle.masm_flat.specs.Lists.{Outside, ListOf, first_procedure}
use Rattle.masm_link.specs.Libraries.{LibraryProcedure, with_library}
use Rattle.std_u64.specs.declared.names.U64Procedure.{U64Procedure}
use Rattle.std_u64.specs.declared.names.U64Procedure.TheVariants as procedures
use Rattle.std_u64.specs.Lists.{instructions, name_of_procedure, operations}

abbrev pub every_procedure : List U64Procedure
every_procedure =
    procedures.OverflowingAdd ∷ procedures.WrappingAdd ∷ procedures.CheckedAdd ∷ procedures.OverflowingSub
    ∷ procedures.WrappingSub ∷ procedures.CheckedSub ∷ procedures.Lt ∷ procedures.Gte ∷ procedures.Gt ∷ procedures.Lte
    ∷ procedures.Eq ∷ []

abbrev pub library_procedure : U64Procedure → LibraryProcedure
library_procedure procedure = record { name = name_of_procedure procedure; instructions = instructions procedure }

unfoldable pub u64_library : List LibraryProcedure
u64_library = map library_procedure every_procedure

-- In a source that does not define it itself, the name of a procedure means the list of its operations.
abbrev pub NamesMeanOperations : Type 0
NamesMeanOperations =
    (source : Source) (out : Outside) (procedure : U64Procedure) (xs : List (Piece Block))
    → first_procedure source.procs (name_of_procedure procedure) ≡ None
    → ListOf (with_library u64_library source) out (name_of_procedure procedure) xs ↔ (xs ≡ map Operation (operations procedure))
