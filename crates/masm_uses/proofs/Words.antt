-- The words that the proofs of this crate have in common.
pub use Rattle.std.proofs.Common.{Bool, Global, List, None, Option, Some, Vec, [], ap, append-nil, ap₂, arith, bytes_eq, false, get_or, inl, inr}
pub use Rattle.std.proofs.Common.{length, map, not, refl, rules, set, slice_get, slice_index_or, subst, suc, sym, take, true, unwrap_or, zero, ℕ, ◌&&◌, ◌++◌}
pub use Rattle.std.proofs.Common.{◌+◌, ◌-◌, ◌<◌, ◌||◌, ◌↔◌, ◌∙◌, ◌∷◌, ◌≡◌, ◌≤◌, ◌⊎◌}
pub use Rattle.std.proofs.lemmas.Bool.{cases_Bool, cases_lt, false≢true}
pub use Rattle.std.proofs.lemmas.Bool.Decides.{eqb_tells}
pub use Rattle.std.proofs.lemmas.Grind.{flat_map-append}
pub use Rattle.std.proofs.lemmas.List.{get_or_default, length-map}
pub use Rattle.std.proofs.lemmas.List.Elements.{All-contains, All-nil, All-push, Contains-append_cases, Contains-append_left, Contains-append_right}
pub use Rattle.std.proofs.lemmas.List.Elements.{Contains-get_or, Contains-push_cases, filter_map-append, filter_passes}
pub use Rattle.std.proofs.lemmas.List.Folds.{list_any-from_Any}
pub use Rattle.std.proofs.lemmas.Slice.Eq.{bytes_eq-Decides}
pub use Rattle.std.specs.List.{All, Contains, cons_option, flat_map, list_any}
pub use Rattle.std.specs.Option.{option_map, option_to_list}
pub use Rattle.std.specs.Prelude.{filter, nat_eq, reverse}
pub use Rattle.graphs.proofs.SortLemmas.{contains_none}
pub use Rattle.graphs.proofs.WalkLemmas.{Leads-push, contains_one, within_marks}
pub use Rattle.graphs.specs.Graph.{Edge, IsGraph, Leads, LeadsFrom, itself, rows_of, through}
pub use Rattle.graphs.specs.Orders.{IsAcyclic, IsOrder, each_once, marked_first}
pub use Rattle.masm_graph.proofs.UserLemmas.{AreUsers-graph, no_link, row_itself, row_read, rows_ended, rows_within, user_within}
pub use Rattle.masm_graph.specs.Dynexecs.{dynexecs_in, has_dynexec, has_one, main_dynexecs_in}
pub use Rattle.masm_graph.specs.Links.{kernel_target, link_of, links_in, main_links_in, own_place, own_places, own_target, place_if, places_referred}
pub use Rattle.masm_graph.specs.Links.{places_with, target_of}
pub use Rattle.masm_graph.specs.Users.{AreUsers, HasOwn, UsesProcedure}
pub use Rattle.masm_graph.specs.declared.links.Link.{Link}
pub use Rattle.masm_names.proofs.DoubleLemmas.{cons_cases, cons_here}
pub use Rattle.masm_names.proofs.LeastLemmas.{Among-either, Among-end, Among-more, Either, FindsLeast-earlier, FindsLeast-itself, FindsLeast-same}
pub use Rattle.masm_names.proofs.LeastLemmas.{FindsLeast-stays, FindsLeast-with, IsNoLater, is_no_later-tells}
pub use Rattle.masm_names.specs.Among.{Among, AmongFirst}
pub use Rattle.masm_names.specs.Least.{FindsLeast}
pub use Rattle.masm_names.specs.Names.{place_at}
pub use Rattle.masm_names.specs.Naming.{Dangles, IsClosed, dynamic, not_in_kernel, recursive, unknown}
pub use Rattle.masm_names.specs.Uses.{HasDynexec, IsDynamic, IsTarget, Kernel, Own, Owner, Reaches, Use, UsedIn, all_uses, bodies_of, dynexecs_of}
pub use Rattle.masm_names.specs.Uses.{first_place, place_in, target_names, uses_of}
pub use Rattle.masm_names.specs.declared.refusal.LinkCause.{LinkCause}
pub use Rattle.masm_names.specs.declared.refusal.Refusal.{Refusal}
pub use Rattle.masm_reading.specs.declared.constant.Const.{Const}
pub use Rattle.masm_tree.specs.Trees.{Procedure, Source}
pub use Rattle.masm_tree.specs.Views.{body_of, procedure_of, source_of}
pub use Rattle.masm_tree.specs.declared.tree.Position.{Position}
pub use Rattle.masm_tree.specs.declared.tree.Proc.{Proc}
pub use Rattle.masm_uses.specs.Dangling.{Dynexecs, IsRefusedDynexec, IsReturn, LeadsNowhere, Missing, Recursions, Returns, comes_first, is_own, missing_cause}
pub use Rattle.masm_uses.specs.Dangling.{waits}
pub use Rattle.masm_uses.specs.Plans.{Builds, EndsInGraph, IsHeldFor, IsNoneOrAll, MarksRow, StandsBefore, StepsTo, built, ended_lists, held, keeps_list}
pub use Rattle.masm_uses.specs.Plans.{makes_digest, no_ends, passed}
pub use Rattle.masm_uses.specs.UseOrders.{IsUseOrder}
pub use Rattle.masm_uses.specs.declared.planning.Step.{Step}
