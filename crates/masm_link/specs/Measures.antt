-- What is known of a source before anything is built, and what it links to in memory.
use Rattle.std.specs.Prelude.{◌≡◌, ℕ, ◌≤◌, true, List, length, map, Option, Some, Result, Ok, Err, Vec, slice_get}
use Rattle.std.specs.Global.{Global}
use Rattle.std.specs.List.{All}
use Rattle.std.specs.Option.{option_map}
use Rattle.block_tree.specs.TreeView.{tree_of}
use Rattle.masm_tree.specs.declared.tree.Position.{Position}
use Rattle.masm_tree.specs.Trees.{Procedure, Source}
use Rattle.masm_flat.specs.declared.outside.KernelProc.{KernelProc}
use Rattle.masm_flat.specs.declared.piece.Piece as piece
use Rattle.masm_size.specs.declared.shape.Size as shape
use Rattle.masm_flat.specs.Blocks.{Block, seen_as, as_tree, as_operations, whole}
use Rattle.masm_flat.specs.KnownLists.{list_at}
use Rattle.masm_size.specs.KnownSizes.{size_at}
use Rattle.masm_flat.specs.Lists.{Exported, Outside, IsBlockOf}
use Rattle.masm_size.specs.Sizes.{as_extent, extent_of}
use Rattle.masm_names.specs.declared.refusal.LinkCause.{LinkCause}
use Rattle.masm_names.specs.declared.refusal.Refusal.{Refusal}
use Rattle.masm_names.specs.Least.{IsLeast}
use Rattle.masm_names.specs.Names.{place_at}
use Rattle.masm_names.specs.Naming.{IsClosed}
use Rattle.masm_uses.specs.Plans.{EndsInFull, IsPlan, main_uses}
use Rattle.masm_uses.specs.UseOrders.{IsUseOrder}
use Rattle.masm_names.specs.Uses.{first_place, target_names}
use Rattle.masm_link.specs.declared.linking.Linked.{Linked}
use Rattle.masm_link.specs.declared.linking.Measured.{Measured}
use Rattle.masm_link.specs.declared.linking.Stop.{Stop}
use Rattle.masm_link.specs.declared.linking.Stop.TheVariants.{Refused, Memory}
use Rattle.masm_tables.specs.Kernels.{AreExports, IsOutside, names_in}
use Rattle.masm_link.specs.Refusals.{RefusesAt, Links}
use Rattle.masm_tables.specs.Tables.{AreSizes}

-- no use leads nowhere or back, and these are the procedures in order, the steps that build lists, the targets of dynexecs, and the
-- sizes of all lists
pub record IsMeasured (source : Source) (kernel : List KernelProc) (m : Measured) : Type 0 where
  pub names : (name : List ℕ) → place_at m.names name ≡ first_place source.procs name
  pub closed : IsClosed source (names_in kernel)
  pub order : IsUseOrder source m.order.items
  pub steps : IsPlan source m.steps.items
  pub ended : All (EndsInFull (place_at m.names) source.procs) m.steps.items
  pub uses : m.uses.items ≡ main_uses (place_at m.names) source.main
  pub targets : map Some m.targets.items ≡ map (first_place source.procs) (target_names source)
  pub count : length m.sizes.items ≡ length source.procs
  pub sizes : (out : Outside) → IsOutside kernel out → AreSizes source out m.order.items m.sizes.items

-- nothing is refused, whatever the constants and the kernel's exports in memory are
abbrev pub IsNeverRefused : Source → List KernelProc → Type 0
IsNeverRefused source kernel =
    (out : Outside) → IsOutside kernel out → (at : Position) (cause : LinkCause) → ¬ (RefusesAt source out at cause)

abbrev pub IsFirstRefused : Source → List KernelProc → Refusal → Type 0
IsFirstRefused source kernel refusal =
    (out : Outside) → IsOutside kernel out → IsLeast (RefusesAt source out) refusal.at refusal.cause

-- the sizes where nothing is refused, and else the least refusal
abbrev pub Measures : Source → List KernelProc → Result Measured Stop → Type 0
Measures source kernel (Ok m) = IsMeasured source kernel m × IsNeverRefused source kernel
Measures source kernel (Err (Refused refusal)) = IsFirstRefused source kernel refusal
Measures source kernel (Err Memory) = Unit {0}

-- the table of lists and that of sizes tell the block of each procedure that is exported
abbrev pub AreReady : Source → Outside → List shape.Size → List (Vec piece.Piece Global) → Type 0
AreReady source out sizes lists =
    (place : ℕ) (p : Procedure) → slice_get source.procs place ≡ Some p → p.exported ≡ true
    → (block : Block) × IsBlockOf source out p block × (whole as_tree (list_at lists (Some place)) ≡ seen_as as_tree block)
    × (extent_of (size_at sizes (Some place)) ≡ seen_as as_extent block) × (1 ≤ seen_as as_operations block)

-- what a source links to, in memory
pub record IsLinked (source : Source) (out : Outside) (linked : Linked) : Type 0 where
  pub exports : List Exported
  pub main : Option Block
  pub links : Links source out exports main
  pub are : AreExports exports linked.exports.items
  pub tree : option_map tree_of linked.main ≡ option_map (seen_as as_tree) main

-- what a source links to under these constants where nothing is refused, and else the least refusal
abbrev pub LinksTo : List ℕ → Source → List KernelProc → Result Linked Stop → Type 0
LinksTo constants source kernel (Ok linked) =
    (out : Outside) → out.constants ≡ constants → IsOutside kernel out → IsLinked source out linked
LinksTo constants source kernel (Err (Refused refusal)) = IsFirstRefused source kernel refusal
LinksTo constants source kernel (Err Memory) = Unit {0}
