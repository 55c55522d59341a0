-- The sources of a run, and the procedures that names in them mean.
use Rattle.std.specs.Prelude.{ℕ, List, Option, slice_get}
use Rattle.std.specs.Borrow.{Bor}
use Rattle.std.specs.Option.{option_map, option_and_then}
use Rattle.masm_tree.specs.declared.tree.Ast.{Ast}
use Rattle.masm_tree.specs.Trees.{Procedure}
use Rattle.masm_tree.specs.Views.{procedure_of, source_of}
use Rattle.masm_names.specs.Uses.{first_place}
use Rattle.masm_places.specs.declared.sources.Found as code
use Rattle.masm_places.specs.declared.origin.Origin.{Origin}
use Rattle.masm_places.specs.declared.origin.Origin.TheVariants as origins
use Rattle.masm_places.specs.Origins.{kernel_procedures, origin_at}

-- a program's procedures, of which so many are its own and those behind them the library's; the body between its begin and end; and
-- its kernel's procedures
pub record Texts : Type 0 where
  pub program : List Procedure
  pub own : ℕ
  pub main : Option Procedure
  pub kernel : List Procedure

-- a procedure, and where it stands
pub record Found : Type 0 where
  pub origin : Origin
  pub procedure : Procedure

abbrev pub found_in : code.Found → Found
found_in f = record { origin = f.origin; procedure = procedure_of f.proc.now }

-- the first procedure of a name, where origins are told by places
abbrev pub at_place : (ℕ → Origin) → List Procedure → ℕ → Option Found
at_place origin procs place = option_map (λ p. record { origin = origin place; procedure = p }) (slice_get procs place)

abbrev pub first_named : (ℕ → Origin) → List Procedure → List ℕ → Option Found
first_named origin procs name = option_and_then (at_place origin procs) (first_place procs name)

abbrev pub found_in_program : Texts → List ℕ → Option Found
found_in_program texts name = first_named (origin_at texts.own) texts.program name

abbrev pub found_in_kernel : Texts → List ℕ → Option Found
found_in_kernel texts name = first_named (λ place. origins.Kernel) texts.kernel name

-- what a name means to exec and call, by where it stands
abbrev pub found : Texts → Origin → List ℕ → Option Found
found texts origins.Program name = found_in_program texts name
found texts origins.Library name = found_in_program texts name
found texts origins.Kernel name = found_in_kernel texts name

-- the body between begin and end
abbrev pub found_main : Texts → Option Found
found_main texts = option_map (λ p. record { origin = origins.Program; procedure = p }) texts.main

abbrev pub texts_of : Ast → ℕ → Option (Bor Ast) → Texts
texts_of program own kernel = record {
  program = (source_of program).procs;
  own = own;
  main = (source_of program).main;
  kernel = kernel_procedures kernel;
}
