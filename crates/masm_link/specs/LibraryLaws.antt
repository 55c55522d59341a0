-- What the procedures of a library are to a source.
use Rattle.std.specs.Prelude.{◌≡◌, ◌↔◌, ℕ, ◌<◌, List, [], map, length, Some, None}
use Rattle.std.specs.List.{Contains}
use Rattle.std.specs.Option.{option_map}
use Rattle.masm_tree.specs.declared.tree.Position.{Position}
use Rattle.masm_tree.specs.Trees.{Procedure, Source}
use Rattle.masm_names.specs.declared.refusal.LinkCause.TheVariants as causes
use Rattle.masm_names.specs.Naming.{Dangles}
use Rattle.masm_names.specs.Uses.{Use, Own, all_uses, target_names, first_place, UsedIn, HasDynexec}
use Rattle.masm_flat.specs.Blocks.{Block, Piece, Operation}
use Rattle.masm_flat.specs.Lists.{Outside, ListOf, first_procedure}
use Rattle.masm_link.specs.Libraries.{LibraryProcedure, operations_of, procedure_in, first_in, with_library}

-- a use of this place whose name neither the source nor the library has
pub record IsUnknown (library : List LibraryProcedure) (source : Source) (at : Position) : Type 0 where
  pub by : Use
  pub among : Contains (all_uses source) by
  pub own : by.kind ≡ Own
  pub here : by.at ≡ at
  pub undefined : first_place source.procs by.name ≡ None
  pub missing : first_in library by.name ≡ None

pub record IsBehind (library : List LibraryProcedure) (source : Source) : Type 0 where
  -- a name means the source's own procedure where the source defines it
  pub own : (name : List ℕ) (p : Procedure) → first_procedure source.procs name ≡ Some p
      → first_procedure (with_library library source).procs name ≡ Some p
  -- and else the library's
  pub other : (name : List ℕ) → first_procedure source.procs name ≡ None
      → first_procedure (with_library library source).procs name ≡ option_map procedure_in (first_in library name)
  -- whose list is the operations of its instructions
  pub list : (out : Outside) (name : List ℕ) (p : LibraryProcedure) (xs : List (Piece Block)) → first_procedure source.procs name ≡ None
      → first_in library name ≡ Some p → ListOf (with_library library source) out name xs ↔ (xs ≡ map Operation (operations_of p))
  -- UnknownProcedure stands exactly where neither has the name
  pub unknown : (kernel : List (List ℕ)) (at : Position)
      → Dangles (with_library library source) kernel at causes.UnknownProcedure ↔ IsUnknown library source at
  -- a library's procedure uses none, so that no cause of a use stands in one
  pub uses : all_uses (with_library library source) ≡ all_uses source
  pub users : (i : ℕ) (u : Use) (j : ℕ) → UsedIn (with_library library source).procs i u j → i < length source.procs
  -- and has no dynexec
  pub dynexecs : (i : ℕ) → HasDynexec (with_library library source).procs i → i < length source.procs
  -- the targets of dynexecs are told by the source's own procrefs
  pub targets : target_names (with_library library source) ≡ target_names source

abbrev pub LibrariesAreBehind : Type 0
LibrariesAreBehind = (library : List LibraryProcedure) (source : Source) → IsBehind library source

-- a library without procedures changes nothing
abbrev pub EmptyLibrary : Type 0
EmptyLibrary = (source : Source) → with_library [] source ≡ source
