-- The rows of uses against the uses of a source.
use Rattle.masm_uses.proofs.Words.{◌≡◌, ℕ, suc, zero, ◌+◌, ◌<◌, List, [], ◌∷◌, map, length, get_or, slice_get, Option, Some, None}
use Rattle.masm_uses.proofs.Words.{◌⊎◌, inl, inr, refl, sym, ap, subst, ◌∙◌, bytes_eq, unwrap_or, arith, cases_Bool, length-map, Contains-append_left}
use Rattle.masm_uses.proofs.Words.{Contains-append_right, Contains-append_cases, bytes_eq-Decides, flat_map, Contains, option_map, Proc}
use Rattle.masm_uses.proofs.Words.{Procedure, procedure_of, body_of, LinkCause, missing_cause, Leads, itself, through, own_target, kernel_target, target_of}
use Rattle.masm_uses.proofs.Words.{link_of, links_in, UsesProcedure, AreUsers, Owner, Own, Kernel, Use, uses_of, place_in, first_place, UsedIn, Reaches}
use Rattle.masm_uses.proofs.Words.{cons_cases, cons_here, user_within, Leads-push}
use Rattle.std.proofs.lemmas.Option.{slice_get-map, slice_get-get_or, slice_get_within, get_or_from_slice_get, slice_get_cases, same_Some}
use Rattle.masm_graph.specs.declared.links.Target.TheVariants as targets
use Rattle.masm_names.specs.declared.refusal.LinkCause.TheVariants as causes
use Rattle.masm_names.specs.Uses as uses

-- Elements by their places.
pub contains_at : {X : Type 0} (xs : List X) (k : ℕ) (x : X) → slice_get xs k ≡ Some x → Contains xs x
contains_at xs k x e = (k, slice_get_within xs k x e, get_or_from_slice_get xs k x x e)

pub at_contains : {X : Type 0} (xs : List X) (x : X) → Contains xs x → (k : ℕ) × (slice_get xs k ≡ Some x)
at_contains xs x h = (h.0, slice_get-get_or xs h.0 x h.1 ∙ ap Some h.2)

pub in_all : {X Y : Type 0} (f : X → List Y) (xs : List X) (i : ℕ) (x : X) (y : Y) → slice_get xs i ≡ Some x → Contains (f x) y
    → Contains (flat_map f xs) y
in_all f [] i x y e h = cc
in_all f (z ∷ xs) zero x y e h =
    Contains-append_left (f z) (flat_map f xs) y (subst (λ w. Contains (f w) y) (ap (λ o. unwrap_or o z) (sym e)) h)
in_all f (z ∷ xs) (suc i) x y e h = Contains-append_right (f z) (flat_map f xs) y (in_all f xs i x y e h)

pub all_in : {X Y : Type 0} (f : X → List Y) (xs : List X) (y : Y) → Contains (flat_map f xs) y
    → (i : ℕ) × (x : X) × (slice_get xs i ≡ Some x) × Contains (f x) y
all_in f [] y h = absurd (omega (arith, h.1))
all_in f (z ∷ xs) y h = elim (Contains-append_cases (f z) (flat_map f xs) y h) [
  | inl here ↦ (0, z, refl, here)
  | inr later ↦ let found = all_in f xs y later in (suc found.0, found.1, found.2, found.3)
]

-- what a mapped list has at a place
pub unmapped : {X Y : Type 0} (f : X → Y) (xs : List X) (k : ℕ) (y : Y) → slice_get (map f xs) k ≡ Some y
    → (x : X) × (slice_get xs k ≡ Some x) × (y ≡ f x)
unmapped {X} f xs k y e = by (slice_get xs k) refl (sym (slice_get-map f xs k) ∙ e)
  where
    by : (o : Option X) → slice_get xs k ≡ o → option_map f o ≡ Some y → (x : X) × (slice_get xs k ≡ Some x) × (y ≡ f x)
    by None none is = cc
    by (Some x) there is = (x, there, sym (same_Some (f x) y is))

pub mapped : {X Y : Type 0} (f : X → Y) (xs : List X) (k : ℕ) (x : X) → slice_get xs k ≡ Some x → slice_get (map f xs) k ≡ Some (f x)
mapped f xs k x e = slice_get-map f xs k ∙ ap (option_map f) e

-- and what stands in it anywhere
pub unmapped_in : {X Y : Type 0} (f : X → Y) (xs : List X) (y : Y) → Contains (map f xs) y → (x : X) × Contains xs x × (y ≡ f x)
unmapped_in f xs y has =
    let k = at_contains (map f xs) y has in
    let found = unmapped f xs k.0 y k.1 in
    (found.0, contains_at xs k.0 found.0 found.1, found.2)

pub mapped_in : {X Y : Type 0} (f : X → Y) (xs : List X) (x : X) → Contains xs x → Contains (map f xs) (f x)
mapped_in f xs x has = let k = at_contains xs x has in contains_at (map f xs) k.0 (f x) (mapped f xs k.0 x k.1)

-- names that stand nowhere

pub none_less : (o : Option ℕ) → option_map (λ i. i + 1) o ≡ None → o ≡ None
none_less None e = refl
none_less (Some k) e = cc

pub place_none : (names : List (List ℕ)) (name : List ℕ) → place_in names name ≡ None → ¬ (Contains names name)
place_none [] name e h = omega (arith, h.1)
place_none (n ∷ names) name e h = elim (cases_Bool (bytes_eq n name)) [
  | inl same ↦ let some : Some 0 ≡ None = rw same at e in cc
  | inr other ↦ elim (cons_cases n names name h) [
    | inl is ↦ let same = (bytes_eq-Decides n name).1 is in cc
    | inr later ↦ place_none names name (none_less (place_in names name) (rw other at e)) later
  ]
]

pub none_place : (names : List (List ℕ)) (name : List ℕ) → ¬ (Contains names name) → place_in names name ≡ None
none_place [] name h = refl
none_place (n ∷ names) name h = elim (cases_Bool (bytes_eq n name)) [
  | inl same ↦ absurd (h (subst (Contains (n ∷ names)) ((bytes_eq-Decides n name).0 same) (cons_here n names)))
  | inr other ↦ rw other (ap (option_map (λ i. i + 1)) (none_place names name (λ later. h (Contains-append_right (n ∷ []) names name later))))
]

-- the name at a place
pub named_at : (names : List (List ℕ)) (name : List ℕ) (k : ℕ) → place_in names name ≡ Some k → slice_get names k ≡ Some name
named_at [] name k e = cc
named_at (n ∷ names) name k e = elim (cases_Bool (bytes_eq n name)) [
  | inl same ↦
      let first : Some 0 ≡ Some k = rw same at e in
      subst (λ m. slice_get (n ∷ names) m ≡ Some name) (same_Some 0 k first) (ap Some ((bytes_eq-Decides n name).0 same))
  | inr other ↦ later (place_in names name) (λ j. named_at names name j) (rw other at e)
]
  where
    later : (o : Option ℕ) → ((j : ℕ) → o ≡ Some j → slice_get names j ≡ Some name) → option_map (λ i. i + 1) o ≡ Some k
        → slice_get (n ∷ names) k ≡ Some name
    later None more e' = cc
    later (Some j) more e' =
        let next : suc j ≡ k = (let same = same_Some (j + 1) k e' in omega arith) in
        subst (λ m. slice_get (n ∷ names) m ≡ Some name) next (more j refl)

pub place_within : (names : List (List ℕ)) (name : List ℕ) (k : ℕ) → place_in names name ≡ Some k → k < length names
place_within names name k e = slice_get_within names k name (named_at names name k e)

-- the same for procedures
pub procedure_within : (procs : List Procedure) (name : List ℕ) (k : ℕ) → first_place procs name ≡ Some k → k < length procs
procedure_within procs name k e =
    subst (λ n. k < n) (length-map procs (λ (p : Procedure). p.name)) (place_within (map (λ (p : Procedure). p.name) procs) name k e)

-- What the target of a use says.
own_missing : (o : Option ℕ) (cause : LinkCause) → missing_cause (own_target o) ≡ Some cause → (o ≡ None) × (cause ≡ causes.UnknownProcedure)
own_missing None cause e = (refl, cc)
own_missing (Some j) cause e = cc

kernel_missing : (o : Option ℕ) (cause : LinkCause) → missing_cause (kernel_target o) ≡ Some cause → (o ≡ None) × (cause ≡ causes.NotInKernel)
kernel_missing None cause e = (refl, cc)
kernel_missing (Some j) cause e = cc

own_leads : (o : Option ℕ) (j : ℕ) → own_target o ≡ targets.Own j → o ≡ Some j
own_leads None j e = cc
own_leads (Some k) j e = cc

kernel_leads : (o : Option ℕ) (j : ℕ) → kernel_target o ≡ targets.Own j → ⊥
kernel_leads None j e = cc
kernel_leads (Some k) j e = cc

module _ (own kernel : List ℕ → Option ℕ) where
  pub missing_by : (kind : Owner) (name : List ℕ) (cause : LinkCause) → missing_cause (target_of own kernel kind name) ≡ Some cause
      → ((kind ≡ Own) × (own name ≡ None) × (cause ≡ causes.UnknownProcedure))
      ⊎ ((kind ≡ Kernel) × (kernel name ≡ None) × (cause ≡ causes.NotInKernel))
  missing_by Own name cause e = let m = own_missing (own name) cause e in inl (refl, m.0, m.1)
  missing_by Kernel name cause e = let m = kernel_missing (kernel name) cause e in inr (refl, m.0, m.1)

  pub missing_own : (kind : Owner) (name : List ℕ) → kind ≡ Own → own name ≡ None
      → missing_cause (target_of own kernel kind name) ≡ Some causes.UnknownProcedure
  missing_own kind name is none = ap (λ k. missing_cause (target_of own kernel k name)) is ∙ ap (λ o. missing_cause (own_target o)) none

  pub missing_kernel : (kind : Owner) (name : List ℕ) → kind ≡ Kernel → kernel name ≡ None
      → missing_cause (target_of own kernel kind name) ≡ Some causes.NotInKernel
  missing_kernel kind name is none = ap (λ k. missing_cause (target_of own kernel k name)) is ∙ ap (λ o. missing_cause (kernel_target o)) none

  pub leads_by : (kind : Owner) (name : List ℕ) (j : ℕ) → target_of own kernel kind name ≡ targets.Own j → (kind ≡ Own) × (own name ≡ Some j)
  leads_by Own name j e = (refl, own_leads (own name) j e)
  leads_by Kernel name j e = absurd (kernel_leads (kernel name) j e)

  pub leads_own : (kind : Owner) (name : List ℕ) (j : ℕ) → kind ≡ Own → own name ≡ Some j → target_of own kernel kind name ≡ targets.Own j
  leads_own kind name j is some = ap (λ k. target_of own kernel k name) is ∙ ap own_target some

-- The uses of the source's own procedures, where a name's place is the first one.
module _ (own kernel : List ℕ → Option ℕ) (procs : List Proc) (places : (name : List ℕ) → own name ≡ first_place (map procedure_of procs) name) where
  pub used : (i : ℕ) (p : Proc) (u : Use) (j : ℕ) → slice_get procs i ≡ Some p → Contains (uses_of (body_of p.body.items)) u
      → target_of own kernel u.kind u.name ≡ targets.Own j → UsedIn (map procedure_of procs) i u j
  used i p u j here among leads =
      let by = leads_by own kernel u.kind u.name j leads in
      record { procedure = procedure_of p; here = mapped procedure_of procs i p here; among = among; own = by.0; target = sym (places u.name) ∙ by.1 }

  pub used_by : (i : ℕ) (u : Use) (j : ℕ) → UsedIn (map procedure_of procs) i u j
      → (p : Proc) × (slice_get procs i ≡ Some p) × Contains (uses_of (body_of p.body.items)) u × (target_of own kernel u.kind u.name ≡ targets.Own j)
  used_by i u j is =
      let found = unmapped procedure_of procs i is.procedure is.here in (
        found.0,
        found.1,
        subst (λ q. Contains (uses_of q.body) u) found.2 is.among,
        leads_own own kernel u.kind u.name j is.own (places u.name ∙ is.target),
      )

  pub goes_used : (i j : ℕ) → UsesProcedure (map (links_in own kernel) procs) i j → (u : Use) × UsedIn (map procedure_of procs) i u j
  goes_used i j goes =
      elim (slice_get_cases (map (links_in own kernel) procs) i).1 [
        | inl row ↦
            let found = unmapped (links_in own kernel) procs i row.0 row.2 in
            let row_is : get_or (map (links_in own kernel) procs) i [] ≡ links_in own kernel found.0 =
            get_or_from_slice_get _ i row.0 [] row.2 ∙ found.2 in
            let has = subst (λ r. Contains r goes.1) row_is (goes.0, goes.2, goes.3) in
            let u = unmapped_in (link_of own kernel) (uses_of (body_of found.0.body.items)) goes.1 has in
            (u.0, used i found.0 u.0 j found.1 u.1 (sym (ap (λ l. l.target) u.2) ∙ goes.4))
        | inr past ↦ absurd (let within = user_within _ i j goes in let l = past.0 in omega arith)
      ]

  pub goes_within : (i j : ℕ) → UsesProcedure (map (links_in own kernel) procs) i j → j < length procs
  goes_within i j goes =
      let found = goes_used i j goes in
      subst (λ n. j < n) (length-map procs procedure_of) (procedure_within (map procedure_of procs) found.0.name j found.1.target)

  -- the link of a use stands in the row of its procedure
  pub link_used : (i : ℕ) (u : Use) (j : ℕ) → UsedIn (map procedure_of procs) i u j
      → Contains (get_or (map (links_in own kernel) procs) i []) (link_of own kernel u) × (target_of own kernel u.kind u.name ≡ targets.Own j)
  link_used i u j is =
      let by = used_by i u j is in
      let row_is : get_or (map (links_in own kernel) procs) i [] ≡ links_in own kernel by.0 =
      get_or_from_slice_get _ i (links_in own kernel by.0) [] (mapped (links_in own kernel) procs i by.0 by.1) in
      (subst (λ r. Contains r (link_of own kernel u)) (sym row_is) (mapped_in (link_of own kernel) _ u by.2), by.3)

  pub used_goes : (i : ℕ) (u : Use) (j : ℕ) → UsedIn (map procedure_of procs) i u j → UsesProcedure (map (links_in own kernel) procs) i j
  used_goes i u j is =
      let there = link_used i u j is in
      (there.0.0, link_of own kernel u, there.0.1, there.0.2, there.1)

  module _ (users : List (List ℕ)) (are : AreUsers (map (links_in own kernel) procs) users) where
    reaches_push : (a b c : ℕ) (u : Use) → Reaches (map procedure_of procs) a b → UsedIn (map procedure_of procs) b u c
        → Reaches (map procedure_of procs) a c
    reaches_push a b c u uses.itself last = uses.through u last uses.itself
    reaches_push a b c u (uses.through {j = d} v first more) last = uses.through v first (reaches_push d b c u more last)

    pub leads_reaches : (a b : ℕ) → Leads users a b → Reaches (map procedure_of procs) b a
    leads_reaches a b itself = uses.itself
    leads_reaches a b (through {b = c} edge more) =
        let goes = goes_used c a ((are.edges a c).0 edge) in
        reaches_push b c a goes.0 (leads_reaches c b more) goes.1

    pub reaches_leads : (a b : ℕ) → Reaches (map procedure_of procs) b a → Leads users a b
    reaches_leads a b uses.itself = itself
    reaches_leads a b (uses.through {j = c} u first more) =
        Leads-push users a c b (reaches_leads a c more) ((are.edges c b).1 (used_goes b u c first))
