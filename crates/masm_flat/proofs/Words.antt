-- The words that the proofs of this crate have in common.
pub use Rattle.std.proofs.Common.{Bool, Bor, Err, Global, List, None, Ok, Option, Result, Some, Vec, [], add-one, ap, append_assoc, ap₂, arith, bytes_eq}
pub use Rattle.std.proofs.Common.{drop, false, get_or, inl, inr, is_some, length, map, refl, rules, set, subst, suc, sym, take, true, vec_len, zero, ℕ}
pub use Rattle.std.proofs.Common.{◌*◌, ◌++◌, ◌+◌, ◌-◌, ◌<◌, ◌||◌, ◌∙◌, ◌∷◌, ◌≡◌, ◌≢◌, ◌≤◌}
pub use Rattle.std.proofs.lemmas.Bool.{cases_Bool, cases_lt, false≢true}
pub use Rattle.std.proofs.lemmas.Bool.Decides.{eqb_tells, nat_tests}
pub use Rattle.std.proofs.lemmas.List.{at_drop_all, drop_more, get_or-set_other, get_or-set_same, get_or_past, get_or_read, length-map, length-set}
pub use Rattle.std.proofs.lemmas.List.{length-take-le, map_more, nil_from_length}
pub use Rattle.std.proofs.lemmas.List.Elements.{All-from_recursion, Contains-append_right}
pub use Rattle.std.proofs.lemmas.Option.{slice_get_past, slice_get_read}
pub use Rattle.std.specs.List.{Contains, cons_option, find}
pub use Rattle.std.specs.Option.{option_copied, option_map}
pub use Rattle.block_tree.specs.TreeView.{tree_of, trees_in}
pub use Rattle.block_tree.specs.Trees.{Tree}
pub use Rattle.masm_expand.specs.Expansion.{expansion, lit}
pub use Rattle.masm_flat.specs.Blocks.{Block, Dyn, Operation, Whole, as_tree, block_of, blocks_from, whole}
pub use Rattle.masm_flat.specs.Flattening.{Known, flat_with}
pub use Rattle.masm_flat.specs.KnownLists.{digest_at, dispatch_in, list_at, tree_at}
pub use Rattle.masm_flat.specs.Lists.{IsList, ListOf, ListsOf, Outside, block_digest, branches, call, digest_items, dynexec, exec, first_export, instr}
pub use Rattle.masm_flat.specs.Lists.{list_before, loops, no_list, nothing, own, procref, repeated, syscall, times, with_locals}
pub use Rattle.masm_flat.specs.Taking.{ComesTo, Keeps, Serves, TakesList, left_at}
pub use Rattle.masm_flat.specs.Views.{pieces_of}
pub use Rattle.masm_names.proofs.UsesOnly.{SyscallsOnly, UsesOnly}
pub use Rattle.masm_names.specs.Names.{place_at}
pub use Rattle.masm_names.specs.Uses.{Kernel, Own, Use, dynexecs_of, place_in, ref_at, target_names, use_at, uses_of}
pub use Rattle.masm_tree.proofs.Mirror.{body_of_nil}
pub use Rattle.masm_tree.specs.Locals.{HasLocals}
pub use Rattle.masm_tree.specs.Trees.{Body, Empty, If_then, Leaf_then, Repeat_then, Source, While_then}
unfoldable pub use Rattle.masm_tree.specs.Views.{body_of, stmt_view}
pub use Rattle.masm_tree.specs.declared.tree.Position.{Position}
pub use Rattle.masm_tree.specs.declared.tree.Stmt.{Stmt}
pub use Rattle.vm_field.specs.Field.{AreElements, prime}
pub use Rattle.vm_ops.specs.Items.{plain_item}
pub use Rattle.vm_ops.specs.declared.item.Item.{Item}
pub use Rattle.vm_ops.specs.declared.op.Op.TheVariants.{FmpUpdate, Noop}
