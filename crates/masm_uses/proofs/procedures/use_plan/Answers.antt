use Rattle.masm_uses.proofs.Words.{◌≡◌, ◌<◌, ℕ, Bool, false, List, Option, Vec, Global, map, length, take, get_or, sym, ap, refl, subst, ◌∙◌}
use Rattle.masm_uses.proofs.Words.{rows_of, IsGraph, LeadsFrom, each_once, has_dynexec, links_in, main_links_in, own_places, places_with}
use Rattle.masm_uses.proofs.Words.{places_referred, IsClosed, first_place, option_map, Const, place_at, IsAcyclic, IsOrder, All, Contains, IsUseOrder}
use Rattle.masm_uses.proofs.Words.{EndsInGraph, held, Proc, procedure_of, source_of}
use Rattle.masm_uses.proofs.Lent.{count_of, rows_are, graph_is, count_rows, referred_is}
use Rattle.masm_uses.proofs.PlanSources.{row_within, graph_with_is, order_with, plan-lists, plan-digests, steps_end, main_used}
use Rattle.masm_uses.proofs.DispatchLemmas.{held_within, once_within, holds, targets_before}
use Rattle.masm_uses.proofs.TargetLemmas.{referred_within, targets_named}
use Rattle.masm_uses.proofs.UseOrderLemmas.{counts, is-graph, is-acyclic, use-order}
use Rattle.masm_uses.proofs.procedures.use_plan.Goals as goal

-- the order that is found
order_is : (own kernel : List ℕ → Option ℕ) (procs : List Proc) (places : (name : List ℕ) → own name ≡ first_place (map procedure_of procs) name)
    (consts : List Const) (last : Option Proc) (exports : List (List ℕ))
    → IsClosed (record { consts = consts; procs = map procedure_of procs; main = option_map procedure_of last }) exports
    → (dispatches : Bool) (targets : List ℕ) → dispatches ≡ has_dynexec procs last
    → targets ≡ each_once (places_referred (map (links_in own kernel) procs) (main_links_in own kernel last))
    → (graph : List (List ℕ)) (starts order : List ℕ) → graph ≡ map own_places (map (links_in own kernel) procs) → starts ≡ held dispatches targets
    → IsOrder graph order
    → ((k start : ℕ) → ¬ (LeadsFrom graph starts (get_or order k 0)) → Contains starts start → Contains (take k order) start)
    → IsUseOrder (record { consts = consts; procs = map procedure_of procs; main = option_map procedure_of last }) order
order_is own kernel procs places consts last exports closed dispatches targets tells are graph starts order same_graph same_starts is before =
    use-order own kernel procs places (record { consts = consts; procs = map procedure_of procs; main = option_map procedure_of last }) order refl
    (subst (λ g. IsOrder g order) same_graph is)
    (targets_before own kernel procs places consts last dispatches targets tells are exports closed order
    (subst (λ xs. (k start : ℕ) → ¬ (LeadsFrom (map own_places (map (links_in own kernel) procs)) xs (get_or order k 0)) → Contains xs start
    → Contains (take k order) start) same_starts
    (subst (λ g. (k start : ℕ) → ¬ (LeadsFrom g starts (get_or order k 0)) → Contains starts start → Contains (take k order) start) same_graph
    before)))

pub targets-requires : goal.targets-requires
targets-requires c =
    let own : List ℕ → Option ℕ = place_at c.args.names.now in
    let kernel : List ℕ → Option ℕ = place_at c.in_ok-exports.exports in
    let ast = c.args.ast.now in
    let procs = ast.procs.items in
    let rows = rows_are own kernel c.as_slice-procs.ensures.value c.as_slice-rows.ensures.value c.in_ok-rows.ensures in
    let main = c.as_slice-main.ensures.value ∙ c.in_ok-main.ensures in
    subst (λ n. All (λ q. q < n) (places_referred (rows_of c.as_slice-rows.result.now) c.as_slice-main.result.now))
    (sym (count_rows own kernel procs _ rows))
    (subst (All (λ q. q < length procs)) (sym (referred_is own kernel procs ast.main _ rows main))
    (referred_within own kernel procs c.requires.names ast.consts ast.main))

pub order_from-requires : goal.order_from-requires
order_from-requires c =
    let own : List ℕ → Option ℕ = place_at c.args.names.now in
    let kernel : List ℕ → Option ℕ = place_at c.in_ok-exports.exports in
    let ast = c.args.ast.now in
    let procs = ast.procs.items in
    let rows = rows_are own kernel c.as_slice-procs.ensures.value c.as_slice-rows.ensures.value c.in_ok-rows.ensures in
    let main = c.as_slice-main.ensures.value ∙ c.in_ok-main.ensures in
    let graph = graph_is own kernel procs _ rows c.as_slice-graph.ensures.value c.in_ok-graph.ensures in
    let are = c.in_ok-targets.ensures ∙ ap each_once (referred_is own kernel procs ast.main _ rows main) in
    record {
      graph = subst IsGraph (sym graph) (is-graph own kernel procs c.requires.names);
      acyclic = subst IsAcyclic (sym graph) (is-acyclic own kernel procs c.requires.names (source_of ast) c.args.kernel.now refl c.requires.closed);
      starts = subst (λ n. All (λ q. q < n) c.held.result.now) (sym (count_of _ graph ∙ counts own kernel procs c.requires.names))
          (subst (All (λ q. q < length procs)) (sym (c.held.ensures ∙ ap (held c.in_ok-dynamic.dynamic) c.as_slice.ensures.value))
          (held_within c.in_ok-dynamic.dynamic c.in_ok-targets.targets.items (length procs)
          (subst (All (λ q. q < length procs)) (sym are) (once_within own kernel procs c.requires.names ast.consts ast.main))));
    }

pub planned-requires : goal.planned-requires
planned-requires c =
    let own : List ℕ → Option ℕ = place_at c.args.names.now in
    let kernel : List ℕ → Option ℕ = place_at c.in_ok-exports.exports in
    let ast = c.args.ast.now in
    let procs = ast.procs.items in
    let rows = rows_are own kernel c.as_slice-procs.ensures.value c.as_slice-rows.ensures.value c.in_ok-rows.ensures in
    let main = c.as_slice-main.ensures.value ∙ c.in_ok-main.ensures in
    let graph = graph_is own kernel procs _ rows c.as_slice-graph.ensures.value c.in_ok-graph.ensures in
    let are = c.in_ok-targets.ensures ∙ ap each_once (referred_is own kernel procs ast.main _ rows main) in
    let order = c.in_ok-order.order.items in
    let all = ap length c.as_slice-procs.ensures.value in
    record {
      count = count_rows own kernel procs _ rows ∙ sym all;
      graph = λ refers. subst (λ rs. IsGraph (map (places_with refers) rs)) (sym rows) (graph_with_is own kernel procs c.requires.names refers);
      order = λ refers. subst (λ rs. IsOrder (map (places_with refers) rs) order) (sym rows)
          (order_with own kernel procs c.requires.names refers order (subst (λ g. IsOrder g order) graph c.in_ok-order.ensures.order));
      main = λ refers. subst (λ n. All (λ q. q < n) (places_with refers c.as_slice-main.result.now)) (sym all)
          (subst (λ row. All (λ q. q < length procs) (places_with refers row)) (sym main)
          (row_within own kernel procs c.requires.names refers ast.main));
      targets = subst (λ n. All (λ q. q < n) c.in_ok-targets.targets.items) (sym all)
          (subst (All (λ q. q < length procs)) (sym are) (once_within own kernel procs c.requires.names ast.consts ast.main));
    }

pub returns : goal.returns
returns c =
    let own : List ℕ → Option ℕ = place_at c.args.names.now in
    let kernel : List ℕ → Option ℕ = place_at c.in_ok-exports.exports in
    let ast = c.args.ast.now in
    let procs = ast.procs.items in
    let rows = rows_are own kernel c.as_slice-procs.ensures.value c.as_slice-rows.ensures.value c.in_ok-rows.ensures in
    let main = c.as_slice-main.ensures.value ∙ c.in_ok-main.ensures in
    let graph = graph_is own kernel procs _ rows c.as_slice-graph.ensures.value c.in_ok-graph.ensures in
    let are = c.in_ok-targets.ensures ∙ ap each_once (referred_is own kernel procs ast.main _ rows main) in
    let tells = c.in_ok-dynamic.ensures ∙ ap (λ ps. has_dynexec ps ast.main) c.as_slice-procs.ensures.value in
    let dispatches = c.in_ok-dynamic.dynamic in
    let targets = c.in_ok-targets.targets.items in
    let order = c.in_ok-order.order.items in
    let is = order_is own kernel procs c.requires.names ast.consts ast.main c.args.kernel.now c.requires.closed dispatches targets tells are
    (rows_of c.as_slice-graph.result.now) c.held.result.now order graph
    (c.held.ensures ∙ ap (held dispatches) c.as_slice.ensures.value) c.in_ok-order.ensures.order c.in_ok-order.ensures.starts in
    let steps = c.in_ok-plan.plan.steps.items in
    record {
      order = subst (λ (v : Vec ℕ Global). IsUseOrder (source_of ast) v.items) (sym c.in_ok-plan.ensures.order) is;
      steps = record {
        lists = plan-lists own kernel procs c.requires.names ast.consts ast.main (held dispatches targets) order steps
            (holds own kernel procs c.requires.names ast.consts ast.main dispatches targets tells are) is
            (rw (c.as_slice-procs.ensures.value, main, rows) at c.in_ok-plan.ensures.lists);
        digests = plan-digests own kernel procs c.requires.names ast.consts ast.main steps (rw (main, rows) at c.in_ok-plan.ensures.digests);
      };
      ended = steps_end own kernel procs steps
          (subst (λ rs. All (EndsInGraph (map (places_with false) rs)) steps) rows c.in_ok-plan.ensures.ended);
      main = main_used own kernel ast.main c.in_ok-plan.plan.main.items (c.in_ok-plan.ensures.main ∙ ap (places_with false) main);
      targets = targets_named own kernel procs c.requires.names ast.consts ast.main c.args.kernel.now c.requires.closed
          c.in_ok-plan.plan.targets.items (ap (λ (v : Vec ℕ Global). v.items) c.in_ok-plan.ensures.targets ∙ are);
    }
