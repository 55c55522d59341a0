-- Dynexecs and their targets: which of them are refused, and what an order does for the others.
use Rattle.masm_uses.proofs.Words.{◌≡◌, ℕ, ◌<◌, ◌||◌, Bool, true, false, List, [], ◌∷◌, map, length, take, get_or, Option, Some, None, inl, inr, refl, sym}
use Rattle.masm_uses.proofs.Words.{ap, subst, ◌∙◌, ◌↔◌, arith, All-nil, All-contains, Contains-append_left, Contains-append_cases, Contains-get_or}
use Rattle.masm_uses.proofs.Words.{list_any-from_Any, All, Contains, list_any, option_map, option_to_list, Const, Position, Proc, Procedure, Source}
use Rattle.masm_uses.proofs.Words.{procedure_of, Refusal, FindsLeast, IsClosed, dynamic, dynexecs_of, first_place, IsTarget, HasDynexec, IsDynamic}
use Rattle.masm_uses.proofs.Words.{FindsLeast-same, LeadsFrom, each_once, contains_one, dynexecs_in, main_dynexecs_in, has_one, has_dynexec, links_in}
use Rattle.masm_uses.proofs.Words.{main_links_in, own_places, places_referred, Dynexecs, held}
use Rattle.masm_names.specs.declared.refusal.LinkCause.TheVariants as causes
use Rattle.graphs.proofs.Filters.{once_has, once_from}
use Rattle.masm_uses.proofs.TargetLemmas.{target_among, among_target, referred_within}
use Rattle.masm_uses.proofs.UsedLemmas.{contains_at, mapped_in, unmapped_in}
use Rattle.masm_uses.proofs.UseOrderLemmas.{leads_reaches}

-- where marks tell the procedures that are reached
pub Dynexecs-same : (Reached Other : ℕ → Type 0) (rows : List (List Position)) (r : Option Refusal) → ((place : ℕ) → Reached place ↔ Other place)
    → FindsLeast (Dynexecs Reached rows) r → FindsLeast (Dynexecs Other rows) r
Dynexecs-same Reached Other rows r same =
    FindsLeast-same (Dynexecs Reached rows) (Dynexecs Other rows) r
    (λ at cause h. (h.0, (h.1.0, h.1.1, (h.1.2.0, (h.1.2.1.0, h.1.2.1.1, ((same h.0).0 h.1.2.1.2.0, h.1.2.1.2.1, h.1.2.1.2.2))))))
    (λ at cause h. (h.0, (h.1.0, h.1.1, (h.1.2.0, (h.1.2.1.0, h.1.2.1.1, ((same h.0).1 h.1.2.1.2.0, h.1.2.1.2.1, h.1.2.1.2.2))))))

-- what is held

pub held_within : (dispatches : Bool) (targets : List ℕ) (n : ℕ) → All (λ q. q < n) targets → All (λ q. q < n) (held dispatches targets)
held_within true targets n all = all
held_within false targets n all = All-nil (λ q. q < n)

held_from : (dispatches : Bool) (targets : List ℕ) (q : ℕ) → Contains (held dispatches targets) q → Contains targets q
held_from true targets q h = h
held_from false targets q h = absurd (omega (arith, h.1))

is_held : (dispatches : Bool) (targets : List ℕ) (q : ℕ) → dispatches ≡ true → Contains targets q → Contains (held dispatches targets) q
is_held dispatches targets q is h = subst (λ b. Contains (held b targets) q) (sym is) h

-- whether there is a dynexec

some_one : (row : List Position) (at : Position) → Contains row at → has_one row ≡ true
some_one [] at h = absurd (omega (arith, h.1))
some_one (first ∷ row) at h = refl

first_true : (a b : Bool) → a ≡ true → (a || b) ≡ true
first_true a b is = ap (λ c. c || b) is

second_true : (a b : Bool) → b ≡ true → (a || b) ≡ true
second_true true b is = refl
second_true false b is = is

module _ (own kernel : List ℕ → Option ℕ) (procs : List Proc) (places : (name : List ℕ) → own name ≡ first_place (map procedure_of procs) name)
    (consts : List Const) (main : Option Proc) where
  abbrev the_source : Source
  the_source = record { consts = consts; procs = map procedure_of procs; main = option_map procedure_of main }

  abbrev referred : List ℕ
  referred = places_referred (map (links_in own kernel) procs) (main_links_in own kernel main)

  abbrev graph : List (List ℕ)
  graph = map own_places (map (links_in own kernel) procs)

  main_has : (last : Option Proc) (p : Procedure) (at : Position) → Contains (option_to_list (option_map procedure_of last)) p
      → Contains (dynexecs_of p.body) at → has_one (main_dynexecs_in last) ≡ true
  main_has None p at here among = absurd (omega (arith, here.1))
  main_has (Some last) p at here among =
      some_one (dynexecs_in last) at (subst (λ q. Contains (dynexecs_of q.body) at) (sym (contains_one (procedure_of last) p here)) among)

  dynamic_has : IsDynamic the_source → has_dynexec procs main ≡ true
  dynamic_has is =
      elim (Contains-append_cases (map procedure_of procs) (option_to_list (option_map procedure_of main)) is.procedure is.here) [
        | inl in_procs ↦
            let p = unmapped_in procedure_of procs is.procedure in_procs in
            let among = subst (λ q. Contains (dynexecs_of q.body) is.at) p.2 is.among in
            let row = mapped_in dynexecs_in procs p.0 p.1 in
            first_true (list_any has_one (map dynexecs_in procs)) (has_one (main_dynexecs_in main))
            (list_any-from_Any has_one (map dynexecs_in procs) (row.0, dynexecs_in p.0, row.1, row.2, some_one (dynexecs_in p.0) is.at among))
        | inr in_main ↦
            second_true (list_any has_one (map dynexecs_in procs)) (has_one (main_dynexecs_in main)) (main_has main is.procedure is.at in_main is.among)
      ]

  pub dynamic_by : (i : ℕ) → HasDynexec the_source.procs i → IsDynamic the_source
  dynamic_by i has = record {
    procedure = has.procedure;
    here = Contains-append_left (map procedure_of procs) (option_to_list (option_map procedure_of main)) has.procedure
        (contains_at (map procedure_of procs) i has.procedure has.here);
    at = has.at;
    among = has.among;
  }

  pub once_within : All (λ q. q < length procs) (each_once referred)
  once_within k d below =
      All-contains (λ q. q < length procs) referred (get_or (each_once referred) k d) (referred_within own kernel procs places consts main)
      (once_from referred (get_or (each_once referred) k d) (Contains-get_or (each_once referred) k d below))

  module _ (dispatches : Bool) (targets : List ℕ) (tells : dispatches ≡ has_dynexec procs main) (are : targets ≡ each_once referred) where
    pub holds : (q : ℕ) → IsDynamic the_source → IsTarget the_source q → Contains (held dispatches targets) q
    holds q is target =
        is_held dispatches targets q (tells ∙ dynamic_has is)
        (subst (λ xs. Contains xs q) (sym are) (once_has referred q (target_among own kernel procs places consts main q target)))

    -- a procedure with a dynexec is reached from no target
    module _ (exports : List (List ℕ)) (closed : IsClosed the_source exports) where
      apart : (i : ℕ) → HasDynexec the_source.procs i → ¬ (LeadsFrom graph (held dispatches targets) i)
      apart i has from =
          let target = among_target own kernel procs places consts main from.0
          (once_from referred from.0 (subst (λ xs. Contains xs from.0) are (held_from dispatches targets from.0 from.1))) in
          closed has.at causes.Recursive
          (dynamic i has.procedure has.at from.0 has.here has.among target (leads_reaches own kernel procs places from.0 i from.2))

      -- so that it stands behind all of them
      pub targets_before : (order : List ℕ)
          → ((k start : ℕ) → ¬ (LeadsFrom graph (held dispatches targets) (get_or order k 0)) → Contains (held dispatches targets) start
          → Contains (take k order) start)
          → (k j : ℕ) → HasDynexec the_source.procs (get_or order k 0) → IsTarget the_source j → Contains (take k order) j
      targets_before order before k j has target =
          before k j (apart (get_or order k 0) has) (holds j (dynamic_by (get_or order k 0) has) target)
