-- The procedures that procrefs name: by the source, and by the rows of its uses.
use Rattle.masm_uses.proofs.Words.{◌≡◌, ℕ, ◌+◌, ◌<◌, true, not, List, [], ◌∷◌, ◌++◌, map, length, get_or, Option, Some}
use Rattle.masm_uses.proofs.Words.{None, inl, inr, refl, sym, ap, ap₂, subst, ◌∙◌, bytes_eq, append-nil, filter, nat_eq, cases_Bool}
use Rattle.masm_uses.proofs.Words.{eqb_tells, flat_map-append, length-map, Contains-append_right}
use Rattle.masm_uses.proofs.Words.{Contains-get_or, filter_map-append, bytes_eq-Decides, All, Contains, flat_map, option_map, option_to_list}
use Rattle.masm_uses.proofs.Words.{Const, Proc, Procedure, Source, procedure_of, unknown, IsClosed, Use, Own, uses_of, bodies_of, all_uses, place_in}
use Rattle.masm_uses.proofs.Words.{first_place, target_names, IsTarget, cons_here, each_once, link_of, links_in, main_links_in, own_place, place_if}
use Rattle.masm_uses.proofs.Words.{places_with, places_referred}
use Rattle.std.proofs.lemmas.List.{map-append}
use Rattle.std.proofs.lemmas.Option.{same_Some}
use Rattle.masm_names.specs.declared.refusal.LinkCause.TheVariants as causes
use Rattle.masm_names.specs.Uses as names
use Rattle.masm_names.proofs.UsesOnly.{refs_are_own}
use Rattle.masm_graph.proofs.OwnLemmas.{own_in_with, with_link}
use Rattle.masm_uses.proofs.UsedLemmas.{all_in, mapped_in, unmapped_in, named_at, procedure_within, leads_by, leads_own}

abbrev pub uses_in : Procedure → List Use
uses_in p = uses_of p.body

same_name : (all : List (List ℕ)) (a b : List ℕ) (j : ℕ) → place_in all a ≡ Some j → place_in all b ≡ Some j → a ≡ b
same_name all a b j p q = same_Some a b (sym (named_at all a j p) ∙ named_at all b j q)

-- Names and their places, each once.
module _ (place : List ℕ → Option ℕ) (alike : (a b : List ℕ) (j : ℕ) → place a ≡ Some j → place b ≡ Some j → a ≡ b) where
  abbrev other_places : ℕ → List ℕ → List ℕ
  other_places p ps = filter (λ other. not (nat_eq p other)) ps

  abbrev other_names : List ℕ → List (List ℕ) → List (List ℕ)
  other_names a texts = filter (λ other. not (bytes_eq a other)) texts

  one_more : (p q : ℕ) (a b : List ℕ) (ps : List ℕ) (texts : List (List ℕ)) → place a ≡ Some p → place b ≡ Some q
      → map Some (other_places p ps) ≡ map place (other_names a texts)
      → map Some (other_places p (q ∷ ps)) ≡ map place (other_names a (b ∷ texts))
  one_more p q a b ps texts at_a at_b more = elim (eqb_tells p q) [
    | inl same ↦
        let both : bytes_eq a b ≡ true = (bytes_eq-Decides a b).1 (alike a b q (at_a ∙ ap Some same.1) at_b) in
        rw (same.0, both) more
    | inr apart ↦ elim (cases_Bool (bytes_eq a b)) [
      | inl both ↦ absurd (apart.1 (same_Some p q (sym at_a ∙ (ap place ((bytes_eq-Decides a b).0 both) ∙ at_b))))
      | inr differ ↦ rw (apart.0, differ) (ap₂ (λ x xs. x ∷ xs) (sym at_b) more)
    ]
  ]

  others_same : (p : ℕ) (a : List ℕ) (ps : List ℕ) (texts : List (List ℕ)) → place a ≡ Some p → map Some ps ≡ map place texts
      → map Some (other_places p ps) ≡ map place (other_names a texts)
  others_same p a [] [] at_a e = refl
  others_same p a (q ∷ ps) (b ∷ texts) at_a e =
      let here : place b ≡ Some q = cc in
      let rest : map Some ps ≡ map place texts = cc in
      one_more p q a b ps texts at_a here (others_same p a ps texts at_a rest)
  others_same p a qs others at_a e = cc

  pub once_same : (ps : List ℕ) (texts : List (List ℕ)) → map Some ps ≡ map place texts → map Some (each_once ps) ≡ map place (names.each_once texts)
  once_same [] [] e = refl
  once_same (p ∷ ps) (a ∷ texts) e =
      let here : place a ≡ Some p = cc in
      let rest : map Some ps ≡ map place texts = cc in
      ap₂ (λ x xs. x ∷ xs) (sym here) (others_same p a (each_once ps) (names.each_once texts) here (once_same ps texts rest))
  once_same qs others e = cc

module _ (own kernel : List ℕ → Option ℕ) (procs : List Proc) (places : (name : List ℕ) → own name ≡ first_place (map procedure_of procs) name) where
  module _ (consts : List Const) (main : Option Proc) where
    abbrev the_source : Source
    the_source = record { consts = consts; procs = map procedure_of procs; main = option_map procedure_of main }

    abbrev referred : List ℕ
    referred = places_referred (map (links_in own kernel) procs) (main_links_in own kernel main)

    abbrev of_main : List Use
    of_main = flat_map uses_in (option_to_list (option_map procedure_of main))

    parted : all_uses the_source ≡ flat_map uses_in (map procedure_of procs) ++ of_main
    parted = flat_map-append uses_in (map procedure_of procs) (option_to_list (option_map procedure_of main))

    -- the places of all procrefs, in their order
    rows_refer : (ps : List Proc)
        → flat_map (places_with true) (map (links_in own kernel) ps) ≡ places_with true (map (link_of own kernel) (flat_map uses_in (map procedure_of ps)))
    rows_refer [] = refl
    rows_refer (p ∷ ps) =
        ap (λ xs. places_with true (links_in own kernel p) ++ xs) (rows_refer ps)
        ∙ (sym (filter_map-append (λ link. place_if true link.refers (own_place link.target)) (links_in own kernel p)
        (map (link_of own kernel) (flat_map uses_in (map procedure_of ps))))
        ∙ ap (places_with true) (sym (map-append (link_of own kernel) (uses_in (procedure_of p)) (flat_map uses_in (map procedure_of ps)))))

    main_refers : (last : Option Proc) → places_with true (main_links_in own kernel last)
        ≡ places_with true (map (link_of own kernel) (flat_map uses_in (option_to_list (option_map procedure_of last))))
    main_refers None = refl
    main_refers (Some p) = ap (λ us. places_with true (map (link_of own kernel) us)) (sym (append-nil (uses_in (procedure_of p))))

    all_refer : referred ≡ places_with true (map (link_of own kernel) (all_uses the_source))
    all_refer =
        ap₂ (λ xs ys. xs ++ ys) (rows_refer procs) (main_refers main)
        ∙ (sym (filter_map-append (λ link. place_if true link.refers (own_place link.target))
        (map (link_of own kernel) (flat_map uses_in (map procedure_of procs))) (map (link_of own kernel) of_main))
        ∙ ap (places_with true) (sym (map-append (link_of own kernel) (flat_map uses_in (map procedure_of procs)) of_main)
        ∙ ap (map (link_of own kernel)) (sym parted)))

    ref_kind : (u : Use) → Contains (all_uses the_source) u → u.refers ≡ true → u.kind ≡ Own
    ref_kind u has refers = let found = all_in uses_in (bodies_of the_source) u has in refs_are_own found.1.body u found.3 refers

    -- a target's place is among those to which procrefs lead
    pub target_among : (j : ℕ) → IsTarget the_source j → Contains referred j
    target_among j is =
        let u = is.by in
        subst (λ xs. Contains xs j) (sym all_refer)
        (own_in_with true (map (link_of own kernel) (all_uses the_source)) (link_of own kernel u) j
        (mapped_in (link_of own kernel) (all_uses the_source) u is.among) is.refers
        (leads_own own kernel u.kind u.name j (ref_kind u is.among is.refers) (places u.name ∙ is.named)))

    pub among_target : (j : ℕ) → Contains referred j → IsTarget the_source j
    among_target j h =
        let found = with_link true (map (link_of own kernel) (all_uses the_source)) j (subst (λ xs. Contains xs j) all_refer h) in
        let u = unmapped_in (link_of own kernel) (all_uses the_source) found.0 found.1 in
        let by = leads_by own kernel u.0.kind u.0.name j (sym (ap (λ l. l.target) u.2) ∙ found.3) in
        record { by = u.0; among = u.1; refers = sym (ap (λ l. l.refers) u.2) ∙ found.2; named = sym (places u.0.name) ∙ by.1 }

    pub referred_within : All (λ q. q < length procs) referred
    referred_within k d below =
        let target = among_target (get_or referred k d) (Contains-get_or referred k d below) in
        subst (λ n. get_or referred k d < n) (length-map procs procedure_of)
        (procedure_within (map procedure_of procs) target.by.name (get_or referred k d) target.named)

    abbrev Leads : Use → Type 0
    Leads u = (j : ℕ) × (u.kind ≡ Own) × (own u.name ≡ Some j) × (first_place (map procedure_of procs) u.name ≡ Some j)

    refer_same : (us : List Use) → ((u : Use) → Contains us u → u.refers ≡ true → Leads u)
        → map Some (places_with true (map (link_of own kernel) us)) ≡ map (first_place (map procedure_of procs)) (map (λ u. u.name) (filter (λ u. u.refers) us))
    refer_same [] leads = refl
    refer_same (u ∷ us) leads =
        let more = refer_same us (λ v h. leads v (Contains-append_right (u ∷ []) us v h)) in
        elim (cases_Bool u.refers) [
          | inl is ↦
              let lead = leads u (cons_here u us) is in
              rw (is, leads_own own kernel u.kind u.name lead.0 lead.1 lead.2) (ap₂ (λ x xs. x ∷ xs) (sym lead.3) more)
          | inr isnt ↦ rw isnt more
        ]

    module _ (exports : List (List ℕ)) (closed : IsClosed the_source exports) where
      ref_leads : (u : Use) → Contains (all_uses the_source) u → u.refers ≡ true → Leads u
      ref_leads u has refers = by (first_place (map procedure_of procs) u.name) refl
        where
          by : (o : Option ℕ) → first_place (map procedure_of procs) u.name ≡ o → Leads u
          by None none = absurd (closed u.at causes.UnknownProcedure (unknown u has (ref_kind u has refers) none))
          by (Some j) some = (j, ref_kind u has refers, places u.name ∙ some, some)

      -- the targets' places are those of their names
      pub targets_named : (targets : List ℕ) → targets ≡ each_once referred
          → map Some targets ≡ map (first_place the_source.procs) (target_names the_source)
      targets_named targets is =
          ap (map Some) is
          ∙ once_same (first_place (map procedure_of procs)) (same_name (map (λ (q : Procedure). q.name) (map procedure_of procs))) referred
          (map (λ (u : Use). u.name) (filter (λ (u : Use). u.refers) (all_uses the_source)))
          (ap (map Some) all_refer ∙ refer_same (all_uses the_source) ref_leads)
