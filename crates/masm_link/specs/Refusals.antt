-- What is refused once a source is read, and what a source that is not refused links to (docs/ASSEMBLY.md).
pub use Rattle.masm_names.specs.Least.{ComesBefore, IsLeast, FindsLeast}
pub use Rattle.masm_tree.specs.Trees.{position_of}
pub use Rattle.masm_names.specs.Naming.{at_constant, exported_of, Dangles, IsClosed, Doubles}
use Rattle.std.specs.Prelude.{◌≡◌, ◌<◌, List, Option, Some, None, MatchOption}
use Rattle.std.specs.List.{AllZip, Any}
use Rattle.vm_field.specs.Limits.{most_nesting, most_operations}
use Rattle.masm_tree.specs.declared.tree.Position.{Position}
use Rattle.masm_tree.specs.Trees.{Procedure, Source}
use Rattle.masm_names.specs.declared.refusal.LinkCause.{LinkCause}
use Rattle.masm_names.specs.declared.refusal.LinkCause.TheVariants as causes
use Rattle.masm_flat.specs.Blocks.{Block, seen_as, as_operations, as_height}
use Rattle.masm_flat.specs.Lists.{Exported, Outside, IsBlockOf}
use Rattle.masm_names.specs.Uses.{bodies_of}
use Rattle.masm_tables.specs.Kernels.{names_of}

-- a procedure whose tree is too large
pub data IsTooLarge (source : Source) (out : Outside) (p : Procedure) : Position → LinkCause → Type 0 where
  too_many_operations : (block : Block) → IsBlockOf source out p block → most_operations < seen_as as_operations block
      → IsTooLarge source out p (position_of p) causes.TooManyOps
  too_deep : (block : Block) → IsBlockOf source out p block → most_nesting < seen_as as_height block
      → IsTooLarge source out p (position_of p) causes.TooDeep

abbrev pub Oversized : Source → Outside → Position → LinkCause → Type 0
Oversized source out at cause = Any (λ p. IsTooLarge source out p at cause) (bodies_of source)

-- The places and causes of a source that is refused. Sizes are tested only where no use leads nowhere or back.
pub data RefusesAt (source : Source) (out : Outside) (at : Position) (cause : LinkCause) : Type 0 where
  double : Doubles source at cause → RefusesAt source out at cause
  dangling : Dangles source (names_of out.exports) at cause → RefusesAt source out at cause
  oversized : IsClosed source (names_of out.exports) → Oversized source out at cause → RefusesAt source out at cause

-- A source that is not refused: the blocks of its exports, in their order, and that of the body between begin and end.
pub record Links (source : Source) (out : Outside) (exports : List Exported) (main : Option Block) : Type 0 where
  pub clean : (at : Position) (cause : LinkCause) → ¬ (RefusesAt source out at cause)
  pub exported : AllZip (λ p e. (e.name ≡ p.name) × IsBlockOf source out p e.block) (exported_of source.procs) exports
  pub body : MatchOption source.main (main ≡ None) (λ p. (block : Block) × (main ≡ Some block) × IsBlockOf source out p block)
