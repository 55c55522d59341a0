-- The least refusal among the uses of a source.
use Rattle.masm_uses.proofs.Words.{◌≡◌, ℕ, List, [], map, slice_get, Option, Some, None, inl, inr, refl, sym, ap, subst, ◌∙◌, append-nil, arith}
use Rattle.masm_uses.proofs.Words.{flat_map-append, Contains-append_left, Contains-append_right, Contains-append_cases, flat_map, Contains, option_map}
use Rattle.masm_uses.proofs.Words.{option_to_list, Const, Position, Proc, Source, procedure_of, LinkCause, Refusal, Among, LeadsNowhere, Missing, Recursions}
use Rattle.masm_uses.proofs.Words.{Dynexecs, FindsLeast, LeadsFrom, dynexecs_in, link_of, links_in, main_links_in, own_places, places_referred, Dangles}
use Rattle.masm_uses.proofs.Words.{unknown, not_in_kernel, recursive, dynamic, AreUsers, Use, dynexecs_of, all_uses, place_in, first_place, Either}
use Rattle.masm_uses.proofs.Words.{FindsLeast-same, FindsLeast-earlier}
use Rattle.masm_names.specs.declared.refusal.LinkCause.TheVariants as causes
use Rattle.masm_names.specs.Earlier.{earlier}
use Rattle.masm_uses.proofs.TargetLemmas.{uses_in, target_among, among_target}
use Rattle.masm_uses.proofs.UseOrderLemmas as orders
use Rattle.masm_uses.proofs.UsedLemmas.{contains_at, at_contains, in_all, all_in, unmapped, mapped, place_none, none_place, missing_by, missing_own, missing_kernel, used, used_by, leads_reaches, reaches_leads}

module _ (own kernel : List ℕ → Option ℕ) where
  missing_row : (p : Proc) (at : Position) (cause : LinkCause) (u : Use) → Contains (uses_in (procedure_of p)) u
      → LeadsNowhere (link_of own kernel u) at cause
      → Missing (links_in own kernel p) at cause
  missing_row p at cause u has missing =
      let there = at_contains (uses_in (procedure_of p)) u has in
      (there.0, (link_of own kernel u, mapped (link_of own kernel) (uses_in (procedure_of p)) there.0 u there.1, missing))

  row_missing : (p : Proc) (at : Position) (cause : LinkCause) → Missing (links_in own kernel p) at cause
      → (u : Use) × Contains (uses_in (procedure_of p)) u × LeadsNowhere (link_of own kernel u) at cause
  row_missing p at cause h =
      let found = unmapped (link_of own kernel) (uses_in (procedure_of p)) h.0 h.1.0 h.1.1 in
      (found.0, contains_at (uses_in (procedure_of p)) h.0 found.0 found.1, subst (λ l. LeadsNowhere l at cause) found.2 h.1.2)

  missing_main : (main : Option Proc) (at : Position) (cause : LinkCause) (u : Use)
      → Contains (flat_map uses_in (option_to_list (option_map procedure_of main))) u
      → LeadsNowhere (link_of own kernel u) at cause → Missing (main_links_in own kernel main) at cause
  missing_main None at cause u has missing = absurd (omega (arith, has.1))
  missing_main (Some p) at cause u has missing =
      missing_row p at cause u (subst (λ us. Contains us u) (append-nil (uses_in (procedure_of p))) has) missing

  main_missing : (main : Option Proc) (at : Position) (cause : LinkCause) → Missing (main_links_in own kernel main) at cause
      → (u : Use) × Contains (flat_map uses_in (option_to_list (option_map procedure_of main))) u × LeadsNowhere (link_of own kernel u) at cause
  main_missing None at cause h = let none = h.1.1 in cc
  main_missing (Some p) at cause h =
      let found = row_missing p at cause h in (found.0, Contains-append_left (uses_in (procedure_of p)) [] found.0 found.1, found.2)

  module _ (consts : List Const) (procs : List Proc) (main : Option Proc) where
    abbrev the_source : Source
    the_source = record { consts = consts; procs = map procedure_of procs; main = option_map procedure_of main }

    abbrev Lost : Position → LinkCause → Type 0
    Lost = Either (Among (λ place row. Missing row) (map (links_in own kernel) procs)) (Missing (main_links_in own kernel main))

    lost : (at : Position) (cause : LinkCause) (u : Use) → Contains (all_uses the_source) u
        → LeadsNowhere (link_of own kernel u) at cause → Lost at cause
    lost at cause u has missing =
        elim (Contains-append_cases (flat_map uses_in (map procedure_of procs)) (flat_map uses_in (option_to_list (option_map procedure_of main))) u
        (subst (λ us. Contains us u) (flat_map-append uses_in (map procedure_of procs) (option_to_list (option_map procedure_of main))) has)) [
          | inl in_procs ↦
              let found = all_in uses_in (map procedure_of procs) u in_procs in
              let p = unmapped procedure_of procs found.0 found.1 found.2 in
              inl (
                found.0,
                (
                  links_in own kernel p.0,
                  mapped (links_in own kernel) procs found.0 p.0 p.1,
                  missing_row p.0 at cause u (subst (λ q. Contains (uses_in q) u) p.2 found.3) missing,
                ),
              )
          | inr in_main ↦ inr (missing_main main at cause u in_main missing)
        ]

    from_lost : (at : Position) (cause : LinkCause) → Lost at cause
        → (u : Use) × Contains (all_uses the_source) u × LeadsNowhere (link_of own kernel u) at cause
    from_lost at cause (inl (i, (row, e, missing))) =
        let p = unmapped (links_in own kernel) procs i row e in
        let found = row_missing p.0 at cause (subst (λ r. Missing r at cause) p.2 missing) in
        let there = in_all uses_in (map procedure_of procs) i (procedure_of p.0) found.0 (mapped procedure_of procs i p.0 p.1) found.1 in (
          found.0,
          subst (λ us. Contains us found.0) (sym (flat_map-append uses_in (map procedure_of procs) (option_to_list (option_map procedure_of main))))
              (Contains-append_left (flat_map uses_in (map procedure_of procs)) _ found.0 there),
          found.2,
        )
    from_lost at cause (inr missing) =
        let found = main_missing main at cause missing in (
          found.0,
          subst (λ us. Contains us found.0) (sym (flat_map-append uses_in (map procedure_of procs) (option_to_list (option_map procedure_of main))))
              (Contains-append_right (flat_map uses_in (map procedure_of procs)) _ found.0 found.1),
          found.2,
        )

    module _ (names : List (List ℕ)) (users : List (List ℕ)) (places : (name : List ℕ) → own name ≡ first_place (map procedure_of procs) name)
        (exports : (name : List ℕ) → kernel name ≡ place_in names name) (are : AreUsers (map (links_in own kernel) procs) users) where
      abbrev Dispatched : Position → LinkCause → Type 0
      Dispatched =
          Dynexecs (LeadsFrom (map own_places (map (links_in own kernel) procs))
          (places_referred (map (links_in own kernel) procs) (main_links_in own kernel main))) (map dynexecs_in procs)

      abbrev Found : Position → LinkCause → Type 0
      Found = Either (Either Lost (Recursions users (map (links_in own kernel) procs))) Dispatched

      to_found : (at : Position) (cause : LinkCause) → Dangles the_source names at cause → Found at cause
      to_found at cause (unknown u has kind none) =
          inl (inl (lost u.at causes.UnknownProcedure u has (refl, missing_own own kernel u.kind u.name kind (places u.name ∙ none))))
      to_found at cause (not_in_kernel u has kind none) =
          inl (inl (lost u.at causes.NotInKernel u has
          (refl, missing_kernel own kernel u.kind u.name kind (exports u.name ∙ none_place names u.name none))))
      to_found at cause (recursive i u j is reaches) =
          let by = used_by own kernel procs places i u j is in
          let there = at_contains (uses_in (procedure_of by.0)) u by.2 in
          inl (inr (
            i,
            (
              links_in own kernel by.0,
              mapped (links_in own kernel) procs i by.0 by.1,
              (
                there.0,
                (
                  link_of own kernel u,
                  mapped (link_of own kernel) (uses_in (procedure_of by.0)) there.0 u there.1,
                  (refl, refl, (j, by.3, reaches_leads own kernel procs places users are i j reaches)),
                ),
              ),
            ),
          ))
      to_found at cause (dynamic i p here_at j here among target reaches) =
          let q = unmapped procedure_of procs i p here in
          let there = at_contains (dynexecs_in q.0) here_at (subst (λ r. Contains (dynexecs_of r.body) here_at) q.2 among) in
          let leads = orders.reaches_leads own kernel procs places j i reaches in
          inr (
            i,
            (
              dynexecs_in q.0,
              mapped dynexecs_in procs i q.0 q.1,
              (there.0, (here_at, there.1, ((j, target_among own kernel procs places consts main j target, leads), refl, refl))),
            ),
          )

      moved : (at other : Position) (cause why : LinkCause) → at ≡ other → cause ≡ why → Dangles the_source names other why
          → Dangles the_source names at cause
      moved at other cause why is_at is_cause h =
          subst (λ a. Dangles the_source names a cause) (sym is_at) (subst (Dangles the_source names other) (sym is_cause) h)

      from_found : (at : Position) (cause : LinkCause) → Found at cause → Dangles the_source names at cause
      from_found at cause (inl (inl h)) =
          let found = from_lost at cause h in
          let u = found.0 in
          elim (missing_by own kernel u.kind u.name cause found.2.1) [
            | inl by ↦ moved at u.at cause _ found.2.0 by.2 (unknown u found.1 by.0 (sym (places u.name) ∙ by.1))
            | inr by ↦ moved at u.at cause _ found.2.0 by.2 (not_in_kernel u found.1 by.0 (place_none names u.name (sym (exports u.name) ∙ by.1)))
          ]
      from_found at cause (inl (inr (i, (row, e, (k, (link, l, (is_at, is_cause, (j, target, leads)))))))) =
          let p = unmapped (links_in own kernel) procs i row e in
          let u = unmapped (link_of own kernel) (uses_in (procedure_of p.0)) k link (sym (ap (λ r. slice_get r k) p.2) ∙ l) in
          let is =
          used own kernel procs places i p.0 u.0 j p.1 (contains_at (uses_in (procedure_of p.0)) k u.0 u.1)
          (sym (ap (λ x. x.target) u.2) ∙ target) in
          moved at u.0.at cause _ (is_at ∙ ap (λ x. x.at) u.2) is_cause
          (recursive i u.0 j is (leads_reaches own kernel procs places users are i j leads))
      from_found at cause (inr (i, (row, e, (k, (dynexec, l, ((start, is_start, leads), is_at, is_cause)))))) =
          let q = unmapped dynexecs_in procs i row e in
          let has = contains_at (dynexecs_in q.0) k dynexec (sym (ap (λ r. slice_get r k) q.2) ∙ l) in
          moved at dynexec cause _ is_at is_cause
          (dynamic i (procedure_of q.0) dynexec start (mapped procedure_of procs i q.0 q.1) has
          (among_target own kernel procs places consts main start is_start) (orders.leads_reaches own kernel procs places start i leads))

      -- the least refusal of the uses that lead nowhere, in procedures and in the main body, of those that lead back, and of the
      -- dynexecs that are reached from their targets
      pub FindsLeast-dangling : (a b c d : Option Refusal) → FindsLeast (Among (λ place row. Missing row) (map (links_in own kernel) procs)) a
          → FindsLeast (Missing (main_links_in own kernel main)) b → FindsLeast (Recursions users (map (links_in own kernel) procs)) c
          → FindsLeast Dispatched d → FindsLeast (Dangles the_source names) (earlier (earlier (earlier a b) c) d)
      FindsLeast-dangling a b c d p q r s =
          FindsLeast-same Found (Dangles the_source names) (earlier (earlier (earlier a b) c) d) from_found to_found
          (FindsLeast-earlier (Either Lost (Recursions users (map (links_in own kernel) procs))) Dispatched (earlier (earlier a b) c) d
          (FindsLeast-earlier Lost (Recursions users (map (links_in own kernel) procs)) (earlier a b) c
          (FindsLeast-earlier (Among (λ place row. Missing row) (map (links_in own kernel) procs)) (Missing (main_links_in own kernel main)) a b p q) r) s)
