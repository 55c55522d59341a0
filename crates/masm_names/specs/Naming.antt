-- What is refused of the names and the uses of a source (docs/ASSEMBLY.md, "What is refused").
use Rattle.std.specs.Prelude.{◌≡◌, ℕ, true, List, ◌∷◌, ◌++◌, length, Some, None, slice_get}
use Rattle.std.specs.List.{filter, Any, Contains}
use Rattle.vm_field.specs.Limits.{most_kernel}
use Rattle.masm_reading.specs.declared.constant.Const.{Const}
use Rattle.masm_tree.specs.declared.tree.Position.{Position}
use Rattle.masm_tree.specs.Trees.{Procedure, Source, position_of}
use Rattle.masm_names.specs.declared.refusal.LinkCause.{LinkCause}
use Rattle.masm_names.specs.declared.refusal.LinkCause.TheVariants as causes
use Rattle.masm_names.specs.Uses.{Use, Own, Kernel, all_uses, dynexecs_of, first_place, UsedIn, Reaches, IsTarget}

abbrev pub at_constant : Const → Position
at_constant c = record { line = c.line; column = c.column }

abbrev pub exported_of : List Procedure → List Procedure
exported_of procs = filter (λ p. p.exported) procs

-- The uses that lead nowhere: to no procedure, to none of the kernel's, or back; and the dynexecs that are reached from one of
-- their targets. The kernel is told by the names that it exports.
pub data Dangles (source : Source) (kernel : List (List ℕ)) : Position → LinkCause → Type 0 where
  unknown : (u : Use) → Contains (all_uses source) u → u.kind ≡ Own → first_place source.procs u.name ≡ None
      → Dangles source kernel u.at causes.UnknownProcedure
  not_in_kernel : (u : Use) → Contains (all_uses source) u → u.kind ≡ Kernel → ¬ (Contains kernel u.name)
      → Dangles source kernel u.at causes.NotInKernel
  recursive : (i : ℕ) (u : Use) (j : ℕ) → UsedIn source.procs i u j → Reaches source.procs j i
      → Dangles source kernel u.at causes.Recursive
  dynamic : (i : ℕ) (p : Procedure) (at : Position) (j : ℕ) → slice_get source.procs i ≡ Some p → Contains (dynexecs_of p.body) at
      → IsTarget source j → Reaches source.procs j i → Dangles source kernel at causes.Recursive

abbrev pub IsClosed : Source → List (List ℕ) → Type 0
IsClosed source kernel = (at : Position) (cause : LinkCause) → ¬ (Dangles source kernel at cause)

-- names that are defined twice, and exports above 255
pub data Doubles (source : Source) : Position → LinkCause → Type 0 where
  second_constant : (before : List Const) (c : Const) (behind : List Const) → source.consts ≡ before ++ c ∷ behind
      → Any (λ d. d.name ≡ c.name) before → Doubles source (at_constant c) causes.Duplicate
  second_procedure : (before : List Procedure) (p : Procedure) (behind : List Procedure) → source.procs ≡ before ++ p ∷ behind
      → Any (λ q. q.name ≡ p.name) before → Doubles source (position_of p) causes.Duplicate
  one_export_more : (before : List Procedure) (p : Procedure) (behind : List Procedure) → source.procs ≡ before ++ p ∷ behind
      → p.exported ≡ true → length (exported_of before) ≡ most_kernel → Doubles source (position_of p) causes.TooManyExports
