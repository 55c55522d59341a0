-- A plan of a graph of uses is one of the source.
use Rattle.masm_uses.proofs.Words.{◌≡◌, ℕ, ◌<◌, Bool, true, false, List, [], ◌∷◌, map, length, get_or, Option, Some, None, ◌⊎◌, inl, inr, refl}
use Rattle.masm_uses.proofs.Words.{sym, ap, ap₂, subst, ◌∙◌, arith, reverse, length-map, Contains-get_or, All, Contains, cons_option, option_map, Const, Proc}
use Rattle.masm_uses.proofs.Words.{Procedure, Source, procedure_of, body_of, Step, Edge, IsGraph, IsOrder, link_of, links_in, main_links_in, own_place}
use Rattle.masm_uses.proofs.Words.{own_places, place_if, places_with, own_target, kernel_target, target_of, Builds, StandsBefore, keeps_list, ended_lists}
use Rattle.masm_uses.proofs.Words.{makes_digest, no_ends, IsNoneOrAll, EndsInGraph, IsUseOrder, Use, Owner, Own, Kernel, uses_of, first_place, IsTarget}
use Rattle.masm_uses.proofs.Words.{HasDynexec, IsDynamic, contains_none}
use Rattle.std.proofs.lemmas.Option.{get_or_from_slice_get, same_Some}
use Rattle.masm_uses.specs.Plans.{IsWanted, exported, of_main, of_dynexec, IsReferred, by_main, NeedsIn, ListNeeds, used, targeted, EndsInFull, main_uses}
use Rattle.masm_names.specs.UsedPlaces.{place_used, places_used}
use Rattle.masm_uses.proofs.DispatchLemmas.{dynamic_by}
use Rattle.masm_uses.proofs.PlanLemmas.{more_built}
use Rattle.masm_uses.proofs.UsedLemmas.{mapped, unmapped, mapped_in, unmapped_in, procedure_within, leads_by, leads_own, link_used}
use Rattle.masm_uses.proofs.UseOrderLemmas.{counts, is-graph}
use Rattle.masm_graph.proofs.OwnLemmas.{with_link, own_in_with, edge_with, goes_with}

module _ (own kernel : List ℕ → Option ℕ) (procs : List Proc) (places : (name : List ℕ) → own name ≡ first_place (map procedure_of procs) name) where
  abbrev graph : Bool → List (List ℕ)
  graph refers = map (places_with refers) (map (links_in own kernel) procs)

  -- the uses between begin and end
  main_within : (refers : Bool) (main : Option Proc) (q : ℕ) → Contains (places_with refers (main_links_in own kernel main)) q → q < length procs
  main_within refers None q h = absurd (contains_none q h)
  main_within refers (Some p) q h =
      let found = with_link refers (links_in own kernel p) q h in
      let u = unmapped_in (link_of own kernel) (uses_of (body_of p.body.items)) found.0 found.1 in
      let by = leads_by own kernel u.0.kind u.0.name q (sym (ap (λ l. l.target) u.2) ∙ found.3) in
      subst (λ n. q < n) (length-map procs procedure_of)
      (procedure_within (map procedure_of procs) u.0.name q (sym (places u.0.name) ∙ by.1))

  pub row_within : (refers : Bool) (main : Option Proc) → All (λ q. q < length procs) (places_with refers (main_links_in own kernel main))
  row_within refers main k d below =
      let row = places_with refers (main_links_in own kernel main) in
      main_within refers main (get_or row k d) (Contains-get_or row k d below)

  used_in_main : (refers : Bool) (main : Option Proc) (p : Procedure) (u : Use) (q : ℕ) → option_map procedure_of main ≡ Some p
      → Contains (uses_of p.body) u → u.kind ≡ Own → u.refers ≡ refers
      → first_place (map procedure_of procs) u.name ≡ Some q → Contains (places_with refers (main_links_in own kernel main)) q
  used_in_main refers None p u q is has own_use same leads = cc
  used_in_main refers (Some x) p u q is has own_use same leads =
      let there = subst (λ r. Contains (uses_of r.body) u) (sym (same_Some (procedure_of x) p is)) has in
      own_in_with refers (links_in own kernel x) (link_of own kernel u) q (mapped_in (link_of own kernel) _ u there) same
      (leads_own own kernel u.kind u.name q own_use (places u.name ∙ leads))

  -- what a procedure needs is told by its row
  needs_edge : (refers : Bool) (i j : ℕ) → NeedsIn (map procedure_of procs) refers i j → Edge (graph refers) i j
  needs_edge refers i j need =
      let there = link_used own kernel procs places i need.0 j need.1 in
      goes_with refers (map (links_in own kernel) procs) i j (link_of own kernel need.0) there.0 need.2 there.1

  pub counts_with : (refers : Bool) → length (graph refers) ≡ length procs
  counts_with refers = length-map (map (links_in own kernel) procs) (places_with refers) ∙ length-map procs (links_in own kernel)

  -- orders of all uses are orders of either kind
  pub graph_with_is : (refers : Bool) → IsGraph (graph refers)
  graph_with_is refers a b edge =
      let below = is-graph own kernel procs places a b (edge_with refers (map (links_in own kernel) procs) a b edge) in
      let all = counts own kernel procs places in
      let same = counts_with refers in
      omega arith

  pub order_with : (refers : Bool) (order : List ℕ) → IsOrder (map own_places (map (links_in own kernel) procs)) order → IsOrder (graph refers) order
  order_with refers order is = record {
    within = λ k below. let low = is.within k below in let all = counts own kernel procs places in let same = counts_with refers in omega arith;
    all = λ place below. is.all place (let all = counts own kernel procs places in let same = counts_with refers in omega arith);
    behind = λ k b below edge. is.behind k b below (edge_with refers (map (links_in own kernel) procs) _ b edge);
  }

  module _ (consts : List Const) (main : Option Proc) where
    abbrev the_source : Source
    the_source = record { consts = consts; procs = map procedure_of procs; main = option_map procedure_of main }

    -- what is wanted in the end, where these are held
    abbrev pub IsWantedIn : List ℕ → ℕ → Type 0
    IsWantedIn held q =
        (get_or (map (λ (p : Proc). p.exported) procs) q false ≡ true)
        ⊎ (Contains (places_with false (main_links_in own kernel main)) q ⊎ Contains held q)

    wanted : (held : List ℕ) → ((q : ℕ) → IsDynamic the_source → IsTarget the_source q → Contains held q) → (q : ℕ) → IsWanted the_source q
        → IsWantedIn held q
    wanted held holds q (exported p here is_so) =
        let found = unmapped procedure_of procs q p here in
        inl (get_or_from_slice_get (map (λ (r : Proc). r.exported) procs) q found.0.exported false
        (mapped (λ (r : Proc). r.exported) procs q found.0 found.1)
        ∙ (sym (ap (λ (r : Procedure). r.exported) found.2) ∙ is_so))
    wanted held holds q (of_main p u main_is has own_use runs leads) = inr (inl (used_in_main false main p u q main_is has own_use runs leads))
    wanted held holds q (of_dynexec dynamic target) = inr (inr (holds q dynamic target))

    -- what a procedure needs when its list is made
    needs : (held order : List ℕ) → ((q : ℕ) → IsDynamic the_source → IsTarget the_source q → Contains held q) → IsUseOrder the_source order
        → (i j : ℕ) → ListNeeds the_source i j → Edge (graph false) i j ⊎ (Contains held j × StandsBefore order j i)
    needs held order holds is i j (used need) = inl (needs_edge false i j need)
    needs held order holds is i j (targeted has target) =
        inr (
          holds j (dynamic_by own kernel procs places consts main i has) target,
          λ k below here. is.targets k j below (subst (HasDynexec the_source.procs) (sym here) has) target,
        )

    referred : (q : ℕ) → IsReferred the_source q → Contains (places_with true (main_links_in own kernel main)) q
    referred q (by_main p u main_is has own_use refers leads) = used_in_main true main p u q main_is has own_use refers leads

    pub plan-lists : (held order : List ℕ) (steps : List Step) → ((q : ℕ) → IsDynamic the_source → IsTarget the_source q → Contains held q)
        → IsUseOrder the_source order
        → Builds keeps_list ended_lists (λ i j. Edge (graph false) i j ⊎ (Contains held j × StandsBefore order j i)) (length (graph false))
        (IsWantedIn held) (λ q. ⊥) (reverse steps)
        → Builds keeps_list ended_lists (ListNeeds the_source) (length the_source.procs) (IsWanted the_source) (λ q. ⊥) (reverse steps)
    plan-lists held order steps holds is b =
        more_built keeps_list ended_lists (reverse steps) (counts_with false ∙ sym (length-map procs procedure_of)) (needs held order holds is)
        (wanted held holds) (λ q h. h) b

    pub plan-digests : (steps : List Step)
        → Builds makes_digest no_ends (Edge (graph true)) (length (graph true))
        (λ q. Contains (places_with true (main_links_in own kernel main)) q) (λ q. ⊥) (reverse steps)
        → Builds makes_digest no_ends (NeedsIn the_source.procs true) (length the_source.procs) (IsReferred the_source) (λ q. ⊥) (reverse steps)
    plan-digests steps b =
        more_built makes_digest no_ends (reverse steps) (counts_with true ∙ sym (length-map procs procedure_of)) (needs_edge true) referred (λ q h. h) b

-- rows of uses by the places to which they lead
module _ (own kernel : List ℕ → Option ℕ) where
  own_is : (o : Option ℕ) → own_place (own_target o) ≡ o
  own_is None = refl
  own_is (Some place) = refl

  kernel_is : (o : Option ℕ) → own_place (kernel_target o) ≡ None
  kernel_is None = refl
  kernel_is (Some place) = refl

  -- where a use leads, if its list is used
  used_is : (kind : Owner) (refers : Bool) (name : List ℕ)
      → place_if false refers (own_place (target_of own kernel kind name)) ≡ place_used own kind refers name
  used_is Own false name = own_is (own name)
  used_is Own true name = refl
  used_is Kernel false name = kernel_is (kernel name)
  used_is Kernel true name = refl

  row_used : (us : List Use) → places_with false (map (link_of own kernel) us) ≡ places_used own us
  row_used [] = refl
  row_used (u ∷ us) = ap₂ cons_option (used_is u.kind u.refers u.name) (row_used us)

  pub steps_end : (procs : List Proc) (steps : List Step) → All (EndsInGraph (map (places_with false) (map (links_in own kernel) procs))) steps
      → All (EndsInFull own (map procedure_of procs)) steps
  steps_end procs steps all k d below p here =
      let step = get_or steps k d in
      let found = unmapped procedure_of procs step.place p here in
      let row = get_or_from_slice_get (map (places_with false) (map (links_in own kernel) procs)) step.place _ []
      (mapped (places_with false) (map (links_in own kernel) procs) step.place _ (mapped (links_in own kernel) procs step.place found.0 found.1)) in
      subst (IsNoneOrAll step.ended.items)
      (row ∙ (row_used (uses_of (body_of found.0.body.items)) ∙ ap (λ (q : Procedure). places_used own (uses_of q.body)) (sym found.2)))
      (all k d below)

  pub main_used : (main : Option Proc) (row : List ℕ) → row ≡ places_with false (main_links_in own kernel main)
      → row ≡ main_uses own (option_map procedure_of main)
  main_used None row is = is
  main_used (Some p) row is = is ∙ row_used (uses_of (body_of p.body.items))
