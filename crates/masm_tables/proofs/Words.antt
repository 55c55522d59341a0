-- The words that the proofs of this crate have in common.
pub use Rattle.std.proofs.Common.{Bool, Global, List, MatchOption, None, Option, Some, Vec, [], ap, append-nil, ap₂, arith, bytes_eq, cond, false, get_or}
pub use Rattle.std.proofs.Common.{inl, inr, is_some, length, map, refl, rules, set, slice_get, subst, suc, sym, take, true, unwrap_or, zero, ℕ, ◌++◌, ◌+◌}
pub use Rattle.std.proofs.Common.{◌-◌, ◌<◌, ◌∙◌, ◌∷◌, ◌≡◌, ◌≢◌, ◌≤◌, ◌⊎◌}
pub use Rattle.std.proofs.lemmas.Bool.{cases_Bool, cases_lt, false≢true}
pub use Rattle.std.proofs.lemmas.Bool.Decides.{eqb_tells}
pub use Rattle.std.proofs.lemmas.List.{get_or-take, get_or_default, get_or_past, length-map, length-set, length-take-le, reverse-append, take_all, take_more}
pub use Rattle.std.proofs.lemmas.Option.{same_Some, slice_get_read, slice_get_within}
pub use Rattle.std.specs.List.{All, AllByRecursion, AllZip, Contains, filter, find, flat_map}
pub use Rattle.std.specs.Option.{option_map, option_to_list}
pub use Rattle.std.specs.Prelude.{reverse}
pub use Rattle.block_tree.specs.TreeView.{tree_of}
pub use Rattle.block_tree.specs.Trees.{Tree, tree_digest}
pub use Rattle.masm_flat.proofs.DynamicBodies.{dynexecs_only}
pub use Rattle.masm_flat.proofs.Served.{got_other}
pub use Rattle.masm_flat.proofs.Targets.{lists_of_all, seen-targets}
pub use Rattle.masm_flat.specs.Blocks.{Block, as_tree, whole}
pub use Rattle.masm_flat.specs.Flattening.{Known, flat_with}
pub use Rattle.masm_flat.specs.KnownLists.{digest_at, dispatch_in, dispatch_of, list_at, lists_known}
pub use Rattle.masm_flat.specs.Lists.{Exported, IsList, ListOf, ListsOf, Outside, block_digest, first_export, first_procedure, list_before, no_list, own}
pub use Rattle.masm_flat.specs.Lists.{with_locals}
pub use Rattle.masm_flat.specs.Taking.{HasNoneLeft, Serves, left_at}
pub use Rattle.masm_flat.specs.Views.{pieces_of}
pub use Rattle.masm_flat.specs.declared.extent.Extent.{Extent}
pub use Rattle.masm_flat.specs.declared.outside.KernelProc.{KernelProc}
pub use Rattle.masm_flat.specs.declared.table.Table.{Table}
pub use Rattle.masm_names.proofs.DoubleLemmas.{cons_cases, cons_here}
pub use Rattle.masm_names.proofs.UsesOnly.{SyscallsOnly, UsesOnly, refs_are_own, syscalls_only, uses_only}
pub use Rattle.masm_names.specs.Least.{FindsLeast}
pub use Rattle.masm_names.specs.Names.{place_at}
pub use Rattle.masm_names.specs.Naming.{IsClosed, not_in_kernel, unknown}
pub use Rattle.masm_names.specs.UsedPlaces.{places_used, times_among}
pub use Rattle.masm_names.specs.Uses.{IsTarget, Kernel, Own, Use, all_uses, bodies_of, dynexecs_of, each_once, first_place, target_names, uses_of}
pub use Rattle.masm_names.specs.declared.names.Names.{Names}
pub use Rattle.masm_size.specs.KnownSizes.{dispatch_extent, size_at, sizes_known}
pub use Rattle.masm_size.specs.Sizes.{as_extent, extent, extent_of, nothing, procedure_size, size_of, size_view}
pub use Rattle.masm_tables.specs.Building.{AreBuilt, IsBuilt, exported, inner, none}
pub use Rattle.masm_tables.specs.Kernels.{AreExports, IsOutside, names_in, names_of}
pub use Rattle.masm_tables.specs.Limits.{ExceedsLimit}
pub use Rattle.masm_tables.specs.Preparing.{Prepares, had, made, unasked}
pub use Rattle.masm_tables.specs.Putting.{Puts}
pub use Rattle.masm_tables.specs.Tables.{AreKnown, AreSizes, IsDigestAt, IsDispatch, IsDispatched, IsListAt, listed}
pub use Rattle.masm_tree.specs.Locals.{ProcedureFits}
pub use Rattle.masm_tree.specs.Trees.{Body, Procedure, Source, position_of}
pub use Rattle.masm_tree.specs.Views.{body_of, procedure_of, source_of}
pub use Rattle.masm_tree.specs.declared.tree.Position.{Position}
pub use Rattle.masm_tree.specs.declared.tree.Proc.{Proc}
pub use Rattle.masm_uses.proofs.UsedLemmas.{all_in, in_all, mapped}
pub use Rattle.masm_uses.specs.UseOrders.{IsUseOrder}
