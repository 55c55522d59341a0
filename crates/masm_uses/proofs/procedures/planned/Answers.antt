use Rattle.masm_uses.proofs.Words.{◌≡◌, ℕ, Bool, true, false, List, Vec, Global, map, length, get_or, ◌<◌, inl, inr, refl, sym, ap, subst, ◌∙◌, reverse}
use Rattle.masm_uses.proofs.Words.{length-map, All, Contains, rows_of, IsGraph, IsOrder, Link, places_with, EndsInGraph, held, keeps_list, ended_lists}
use Rattle.masm_uses.proofs.Words.{makes_digest, no_ends}
use Rattle.masm_uses.proofs.DispatchLemmas.{held_within}
use Rattle.masm_uses.proofs.Lent.{count_of}
use Rattle.masm_uses.proofs.PlanLemmas.{more_built}
use Rattle.masm_uses.proofs.procedures.planned.Goals as goal

count_is : (refers : Bool) (rows : List (Vec Link Global)) (lent : List (Vec ℕ Global)) {n m : ℕ} → rows_of lent ≡ map (places_with refers) (rows_of rows)
    → n ≡ m → length rows ≡ m → n ≡ length lent
count_is refers rows lent is marks count =
    marks ∙ (sym count ∙ sym (count_of lent is ∙ (length-map (rows_of rows) (places_with refers) ∙ length-map rows (λ (v : Vec Link Global). v.items))))

pub steps_of-requires : goal.steps_of-requires
steps_of-requires c =
    let lists = ap rows_of c.as_slice-lists.ensures.value ∙ c.in_ok-lists.ensures in
    let digests = ap rows_of c.as_slice-digests.ensures.value ∙ c.in_ok-digests.ensures in
    let ordered = λ (refers : Bool). subst (IsOrder (map (places_with refers) (rows_of c.args.rows.now))) (sym c.as_slice-4.ensures.value)
    (c.requires.order refers) in
    record {
      lists = subst IsGraph (sym lists) (c.requires.graph false);
      digests = subst IsGraph (sym digests) (c.requires.graph true);
      lists_order = subst (λ g. IsOrder g c.as_slice-4.result.now) (sym lists) (ordered false);
      digests_order = subst (λ g. IsOrder g c.as_slice-4.result.now) (sym digests) (ordered true);
      lists_count = count_is false c.args.rows.now c.as_slice-lists.result.now lists c.in_ok-needed.ensures.lists_count c.requires.count;
      digests_count = count_is true c.args.rows.now c.as_slice-digests.result.now digests c.in_ok-needed.ensures.digests_count c.requires.count;
    }

pub needed_at_end-requires-clause-held : goal.needed_at_end-requires-clause-held
needed_at_end-requires-clause-held c =
    subst (All (λ q. q < length c.args.procs.now)) (sym (c.held-held.ensures ∙ ap (held c.args.dynamic) c.as_slice.ensures.value))
    (held_within c.args.dynamic c.args.targets.items (length c.args.procs.now) c.requires.targets)

pub returns-clause-lists : goal.returns-clause-lists
returns-clause-lists c =
    let graph = ap rows_of c.as_slice-lists.ensures.value ∙ c.in_ok-lists.ensures in
    let row = c.as_slice-2.ensures.value ∙ c.in_ok-used.ensures in
    let targets = c.held-held.ensures ∙ ap (held c.args.dynamic) c.as_slice.ensures.value in
    let needed = c.in_ok-needed.ensures in
    let steps = c.in_ok-steps.steps.items in
    let marks = c.in_ok-needed.needed.lists.items in
    let marked : (q : ℕ) → Contains (held c.args.dynamic c.args.targets.items) q → get_or marks q false ≡ true =
    λ q has. needed.held q (subst (λ xs. Contains xs q) (sym targets) has) in
    more_built keeps_list ended_lists (reverse steps) refl (λ i j h. elim h [ inl edge ↦ inl edge | inr before ↦ inr (marked j before.0, before.1) ])
    (λ q h. elim h [
      | inl exported ↦ needed.exported q exported
      | inr more ↦ elim more [ inl has ↦ needed.used q (subst (λ xs. Contains xs q) (sym row) has) | inr has ↦ marked q has ]
    ])
    (λ q h. h) (rw (c.as_slice-4.ensures.value, graph) at c.in_ok-steps.ensures.lists)

pub returns-clause-digests : goal.returns-clause-digests
returns-clause-digests c =
    let graph = ap rows_of c.as_slice-digests.ensures.value ∙ c.in_ok-digests.ensures in
    let row = c.as_slice-3.ensures.value ∙ c.in_ok-referred.ensures in
    let needed = c.in_ok-needed.ensures in
    more_built makes_digest no_ends (reverse c.in_ok-steps.steps.items) refl (λ i j edge. inl edge)
    (λ q has. needed.referred q (subst (λ xs. Contains xs q) (sym row) has)) (λ q h. h) (rw graph at c.in_ok-steps.ensures.digests)

pub returns-clause-ended : goal.returns-clause-ended
returns-clause-ended c =
    subst (λ g. All (EndsInGraph g) c.in_ok-steps.steps.items)
    (ap rows_of c.as_slice-lists.ensures.value ∙ c.in_ok-lists.ensures) c.in_ok-steps.ensures.ended
