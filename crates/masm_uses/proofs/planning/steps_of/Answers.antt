use Rattle.masm_uses.proofs.Words.{◌≡◌, ◌+◌, ◌-◌, ◌<◌, ℕ, Bool, true, false, List, Vec, Global, [], length, get_or, refl, sym, subst, ◌∙◌, arith, length-map}
use Rattle.masm_uses.proofs.Words.{rows_of, IsOrder, All-nil, All, Step, EndsInGraph, StepsTo, keeps_list, ended_lists, makes_digest, no_ends, within_marks}
use Rattle.masm_uses.proofs.PlanLemmas.{Served, served-step, served-none, served-all, steps_keep}
use Rattle.masm_uses.proofs.planning.steps_of.Goals as goal

-- before the first step
module _ (makes : Step → Bool) (ends : Step → List ℕ) (graph : List (Vec ℕ Global)) (order : List ℕ) (is : IsOrder (rows_of graph) order)
    (marks : List Bool) where
  begun : (steps : List Step) → length marks ≡ length graph → steps ≡ [] → Served makes ends (rows_of graph) order is marks marks (length order) steps
  begun steps count none =
      subst (Served makes ends (rows_of graph) order is marks marks (length order)) (sym none)
      (served-none makes ends (rows_of graph) order is marks (length order) (count ∙ sym (length-map graph (λ (v : Vec ℕ Global). v.items))) (omega arith))

  -- and behind each
  stepped : (k n : ℕ) (row : List ℕ) (old new : List Bool) (steps more : List Step) → n ≡ k + 1 → k < length order
      → row ≡ get_or (rows_of graph) (get_or order k 0) [] → ((q : ℕ) → get_or marks q false ≡ true → get_or old q false ≡ true)
      → Served makes ends (rows_of graph) order is marks old n steps → StepsTo makes ends (get_or order k 0) row old steps new more
      → Served makes ends (rows_of graph) order is marks new k more
  stepped k n row old new steps more same below row_is kept before step =
      served-step makes ends (rows_of graph) order is marks k (get_or order k 0) row old new steps more below refl row_is kept
      (subst (λ m. Served makes ends (rows_of graph) order is marks old m steps) same before) step

pub loop-k-init : goal.loop-k-init
loop-k-init c = record {
  lists = begun keeps_list ended_lists c.args.lists.now c.args.order.now c.requires.lists_order c.args.needed.lists.items
      _ c.requires.lists_count c.new-steps.ensures.items;
  digests = begun makes_digest no_ends c.args.digests.now c.args.order.now c.requires.digests_order c.args.needed.digests.items
      _ c.requires.digests_count c.new-steps.ensures.items;
  lists_kept = λ q h. h;
  digests_kept = λ q h. h;
  lists_count = c.requires.lists_count;
  digests_count = c.requires.digests_count;
  ended = subst (All (EndsInGraph (rows_of c.args.lists.now))) (sym c.new-steps.ensures.items) (All-nil (EndsInGraph (rows_of c.args.lists.now)));
}

pub add_step-requires-clause-lists : goal.add_step-requires-clause-lists
add_step-requires-clause-lists c = λ k d below.
    within_marks (rows_of c.args.lists.now) c.row_at-list_row.result.now (get_or c.args.order.now (c.loop-k.k - 1) 0) k d _ c.requires.lists
    c.row_at-list_row.ensures (c.loop-k.invariant.lists_count ∙ sym (length-map c.args.lists.now (λ (v : Vec ℕ Global). v.items))) below

pub add_step-requires-clause-digests : goal.add_step-requires-clause-digests
add_step-requires-clause-digests c = λ k d below.
    within_marks (rows_of c.args.digests.now) c.row_at-digest_row.result.now (get_or c.args.order.now (c.loop-k.k - 1) 0) k d _ c.requires.digests
    c.row_at-digest_row.ensures (c.loop-k.invariant.digests_count ∙ sym (length-map c.args.digests.now (λ (v : Vec ℕ Global). v.items))) below

pub loop-k-preserved : goal.loop-k-preserved
loop-k-preserved c =
    let order = c.args.order.now in
    let k = c.loop-k.k - 1 in
    let old = c.loop-k in
    let new = c.add_step.new in
    let same : c.loop-k.k ≡ k + 1 = omega arith in
    let below : k < length order = omega arith in record {
      lists = stepped keeps_list ended_lists c.args.lists.now order c.requires.lists_order c.args.needed.lists.items k old.k
          c.row_at-list_row.result.now old.needs.lists.items new.needed.lists.items old.steps.items new.steps.items same below
          c.row_at-list_row.ensures old.invariant.lists_kept old.invariant.lists c.in_ok-add_step.ensures.lists;
      digests = stepped makes_digest no_ends c.args.digests.now order c.requires.digests_order c.args.needed.digests.items
          k old.k c.row_at-digest_row.result.now old.needs.digests.items new.needed.digests.items old.steps.items new.steps.items same below
          c.row_at-digest_row.ensures old.invariant.digests_kept old.invariant.digests c.in_ok-add_step.ensures.digests;
      lists_kept = λ q h.
          steps_keep keeps_list ended_lists _ c.row_at-list_row.result.now old.needs.lists.items new.needed.lists.items old.steps.items
          new.steps.items c.in_ok-add_step.ensures.lists q (old.invariant.lists_kept q h);
      digests_kept = λ q h.
          steps_keep makes_digest no_ends _ c.row_at-digest_row.result.now old.needs.digests.items new.needed.digests.items old.steps.items
          new.steps.items c.in_ok-add_step.ensures.digests q (old.invariant.digests_kept q h);
      lists_count = c.in_ok-add_step.ensures.lists_count ∙ old.invariant.lists_count;
      digests_count = c.in_ok-add_step.ensures.digests_count ∙ old.invariant.digests_count;
      ended = c.in_ok-add_step.ensures.ended (rows_of c.args.lists.now) (sym c.row_at-list_row.ensures) old.invariant.ended;
    }

pub returns-clause-lists : goal.returns-clause-lists
returns-clause-lists c =
    served-all keeps_list ended_lists (rows_of c.args.lists.now) c.args.order.now c.requires.lists_order c.args.needed.lists.items
    c.loop-k.needs.lists.items c.loop-k.k c.loop-k.steps.items (omega arith) c.loop-k.invariant.lists

pub returns-clause-digests : goal.returns-clause-digests
returns-clause-digests c =
    served-all makes_digest no_ends (rows_of c.args.digests.now) c.args.order.now c.requires.digests_order c.args.needed.digests.items
    c.loop-k.needs.digests.items c.loop-k.k c.loop-k.steps.items (omega arith) c.loop-k.invariant.digests
