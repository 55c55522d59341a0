-- Each procedure of a source of which no use leads nowhere or back has a list.
use Rattle.masm_tables.proofs.Words.{◌≡◌, ℕ, zero, suc, ◌<◌, ◌≤◌, List, length, get_or, take, slice_get, Some, sym, ap, ◌∙◌, arith, length-take-le}
use Rattle.masm_tables.proofs.Words.{get_or-take, get_or_default, slice_get_within, Contains, Procedure, Source, IsClosed, first_place, target_names}
use Rattle.masm_tables.proofs.Words.{IsUseOrder, Block, Outside, ListOf, own, ListsOf, IsList, with_locals, dynexecs_only, lists_of_all, names_of}
use Rattle.masm_flat.specs.Blocks.{Piece}
use Rattle.masm_flat.proofs.HasList.{has_list}
use Rattle.masm_tables.proofs.Closed.{Behind, IsExportName, uses_behind, uses_main, syscalls_procs, syscalls_main}
use Rattle.masm_tables.proofs.Dispatches.{target_leads}
use Rattle.masm_tables.proofs.Finding.{procedure_found}

-- an element of a front stands at an earlier place
in_front : (k : ℕ) (xs : List ℕ) (x : ℕ) → k ≤ length xs → Contains (take k xs) x → (m : ℕ) × (m < k) × (get_or xs m 0 ≡ x)
in_front k xs x within h =
    let count = length-take-le k xs within in
    let low : h.0 < k = omega (arith, h.1) in
    let low_too : h.0 < length xs = omega arith in
    (h.0, low, get_or_default xs h.0 0 x low_too ∙ sym (get_or-take k xs h.0 x low) ∙ h.2)

module _ (source : Source) (names : List (List ℕ)) (closed : IsClosed source names) (out : Outside) (same : names ≡ names_of out.exports)
    (order : List ℕ) (is : IsUseOrder source order) where
  abbrev HasListOf : Procedure → Type 0
  HasListOf p = (xs : List (Piece Block)) × IsList source out p.locals p.body xs

  abbrev TargetLists : Type 0
  TargetLists = (lists : List (List (Piece Block))) × ListsOf source out (target_names source) lists

  exist : (n k : ℕ) → k < n → n ≤ length order → (p : Procedure) → slice_get source.procs (get_or order k 0) ≡ Some p → HasListOf p
  exist zero k low within p here = absurd (omega arith)
  exist (suc n) k low within p here =
      let below : k < length order = omega arith in
      let before = list_before_it (λ m lower q there. exist n m lower (omega arith) q there) in
      has_list (Behind source.procs (Contains (take k order))) (IsExportName out.exports) TargetLists
      (λ name behind. before name behind.0 behind.1 behind.2) (λ name has. has) (λ lists. lists) p.locals p.body
      (uses_behind source names closed order is k p below here) (syscalls_procs source names closed out.exports same (get_or order k 0) p here)
      (dynexecs_only TargetLists p.body (λ at has. lists_of_all source out (target_names source) (λ name among.
      let leads = target_leads source names closed name among in
      before name leads.0 leads.1 (is.targets k leads.0 below (record { procedure = p; here = here; at = at; among = has }) leads.2))))
    where
      -- the list of a procedure that stands before it
      list_before_it : ((m : ℕ) → m < n → (q : Procedure) → slice_get source.procs (get_or order m 0) ≡ Some q → HasListOf q)
          → (name : List ℕ) (j : ℕ) → first_place source.procs name ≡ Some j → Contains (take k order) j
          → (ys : List (Piece Block)) × ListOf source out name ys
      list_before_it lists name j there among =
          let found = procedure_found source.procs name j there in
          let earlier = in_front k order j (omega arith) among in
          let lower : earlier.0 < n = let l = earlier.1 in omega arith in
          let list = lists earlier.0 lower found.0 (ap (slice_get source.procs) earlier.2 ∙ found.1) in
          (with_locals found.0.locals list.0, own name found.2 list.1)

  pub list_of_procedure : (place : ℕ) (p : Procedure) → slice_get source.procs place ≡ Some p → HasListOf p
  list_of_procedure place p here =
      let there = is.all place (slice_get_within source.procs place p here) in
      exist (length order) there.0 there.1 (omega arith) p
      (ap (slice_get source.procs) (get_or_default order there.0 0 place there.1 ∙ there.2) ∙ here)

  list_by_name : (name : List ℕ) (j : ℕ) → first_place source.procs name ≡ Some j → (ys : List (Piece Block)) × ListOf source out name ys
  list_by_name name j there =
      let found = procedure_found source.procs name j there in
      let list = list_of_procedure j found.0 found.1 in
      (with_locals found.0.locals list.0, own name found.2 list.1)

  pub list_of_main : (p : Procedure) → source.main ≡ Some p → HasListOf p
  list_of_main p main =
      has_list (Behind source.procs (Contains order)) (IsExportName out.exports) TargetLists
      (λ name behind. list_by_name name behind.0 behind.1) (λ name has. has) (λ lists. lists) p.locals p.body
      (uses_main source names closed order is p main) (syscalls_main source names closed out.exports same p main)
      (dynexecs_only TargetLists p.body (λ at has. lists_of_all source out (target_names source) (λ name among.
      let leads = target_leads source names closed name among in list_by_name name leads.0 leads.1)))
