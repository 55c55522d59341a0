-- The uses of a source of which none leads nowhere or back.
use Rattle.masm_tables.proofs.Words.{◌≡◌, ℕ, ◌<◌, true, false, List, [], length, get_or, take, slice_get, Option, Some, None, refl, sym, subst}
use Rattle.masm_tables.proofs.Words.{flat_map, Contains, option_to_list, Body, Procedure, Source, IsClosed, unknown, not_in_kernel, IsUseOrder}
use Rattle.masm_tables.proofs.Words.{Use, Own, Kernel, uses_of, all_uses, first_place, in_all, UsesOnly, SyscallsOnly, uses_only, syscalls_only}
use Rattle.masm_tables.proofs.Words.{Block, Exported, first_export, names_of}
use Rattle.std.proofs.lemmas.Grind.{flat_map-append}
use Rattle.std.proofs.lemmas.List.Elements.{Contains-append_left, Contains-append_right}
use Rattle.masm_names.specs.declared.refusal.LinkCause.TheVariants as causes
use Rattle.masm_uses.specs.Plans.{NeedsIn, IsWanted, of_main, IsReferred, by_main}
use Rattle.masm_uses.proofs.UsedLemmas.{procedure_within}
use Rattle.masm_tables.proofs.Finding.{export_none}

abbrev uses_in : Procedure → List Use
uses_in p = uses_of p.body

-- the first procedure of that name stands at one of these places
abbrev pub Behind : List Procedure → (ℕ → Type 0) → List ℕ → Type 0
Behind procs Done name = (j : ℕ) × (first_place procs name ≡ Some j) × Done j

abbrev pub IsExportName : List Exported → List ℕ → Type 0
IsExportName exports name = (block : Block) × (first_export exports name ≡ Some block)

module _ (source : Source) where
  among_procs : (place : ℕ) (p : Procedure) (u : Use) → slice_get source.procs place ≡ Some p → Contains (uses_of p.body) u
      → Contains (all_uses source) u
  among_procs place p u here has =
      subst (λ us. Contains us u) (sym (flat_map-append uses_in source.procs (option_to_list source.main)))
      (Contains-append_left (flat_map uses_in source.procs) _ u (in_all uses_in source.procs place p u here has))

  among_main : (p : Procedure) (u : Use) → source.main ≡ Some p → Contains (uses_of p.body) u → Contains (all_uses source) u
  among_main p u is has =
      subst (λ us. Contains us u) (sym (flat_map-append uses_in source.procs (option_to_list source.main)))
      (Contains-append_right (flat_map uses_in source.procs) _ u
      (subst (λ o. Contains (flat_map uses_in (option_to_list o)) u) (sym is) (Contains-append_left (uses_of p.body) [] u has)))

  module _ (names : List (List ℕ)) (closed : IsClosed source names) where
    pub own_leads : (u : Use) → Contains (all_uses source) u → u.kind ≡ Own → (j : ℕ) × (first_place source.procs u.name ≡ Some j)
    own_leads u has own = by (first_place source.procs u.name) refl
      where
        by : (o : Option ℕ) → first_place source.procs u.name ≡ o → (j : ℕ) × (first_place source.procs u.name ≡ Some j)
        by None none = absurd (closed u.at causes.UnknownProcedure (unknown u has own none))
        by (Some j) is = (j, is)

    kernel_leads : (exports : List Exported) → names ≡ names_of exports → (u : Use) → Contains (all_uses source) u → u.kind ≡ Kernel
        → IsExportName exports u.name
    kernel_leads exports same u has kernel = by (first_export exports u.name) refl
      where
        by : (o : Option Block) → first_export exports u.name ≡ o → IsExportName exports u.name
        by None none =
            absurd (closed u.at causes.NotInKernel (not_in_kernel u has kernel (λ h. export_none exports u.name none (subst
            (λ ns. Contains ns u.name) same h))))
        by (Some block) is = (block, is)

    -- each use in a body leads to a place of which this holds
    uses_told : (Held Known : ℕ → Type 0) (b : Body) → ((u : Use) → Contains (uses_of b) u → Contains (all_uses source) u)
        → ((u : Use) (j : ℕ) → Contains (uses_of b) u → u.kind ≡ Own → first_place source.procs u.name ≡ Some j → u.refers ≡ false → Held j)
        → ((u : Use) (j : ℕ) → Contains (uses_of b) u → u.kind ≡ Own → first_place source.procs u.name ≡ Some j → u.refers ≡ true → Known j)
        → UsesOnly (Behind source.procs Held) (Behind source.procs Known) b
    uses_told Held Known b among held known =
        uses_only (Behind source.procs Held) (Behind source.procs Known) b
        (λ u has own runs. let leads = own_leads u (among u has) own in (leads.0, leads.1, held u leads.0 has own leads.1 runs))
        (λ u has own refers. let leads = own_leads u (among u has) own in (leads.0, leads.1, known u leads.0 has own leads.1 refers))

    pub uses_behind : (order : List ℕ) → IsUseOrder source order → (k : ℕ) (p : Procedure) → k < length order
        → slice_get source.procs (get_or order k 0) ≡ Some p
        → UsesOnly (Behind source.procs (Contains (take k order))) (Behind source.procs (Contains (take k order))) p.body
    uses_behind order is k p below here =
        let done : (u : Use) (j : ℕ) → Contains (uses_of p.body) u → u.kind ≡ Own → first_place source.procs u.name ≡ Some j
        → Contains (take k order) j =
        λ u j has own to. is.behind k u j below (record { procedure = p; here = here; among = has; own = own; target = to }) in
        uses_told (Contains (take k order)) (Contains (take k order)) p.body (λ u has. among_procs (get_or order k 0) p u here has)
        (λ u j has own to runs. done u j has own to) (λ u j has own to refers. done u j has own to)

    pub uses_main : (order : List ℕ) → IsUseOrder source order → (p : Procedure) → source.main ≡ Some p
        → UsesOnly (Behind source.procs (Contains order)) (Behind source.procs (Contains order)) p.body
    uses_main order is p main =
        uses_told (Contains order) (Contains order) p.body (λ u has. among_main p u main has)
        (λ u j has own to runs. is.all j (procedure_within source.procs u.name j to))
        (λ u j has own to refers. is.all j (procedure_within source.procs u.name j to))

    -- the same where the lists of the procedures that are used, and the digests, have these places
    pub uses_held : (Held Known : ℕ → Type 0) (place : ℕ) (p : Procedure) → slice_get source.procs place ≡ Some p
        → ((j : ℕ) → NeedsIn source.procs false place j → Held j) → ((j : ℕ) → NeedsIn source.procs true place j → Known j)
        → UsesOnly (Behind source.procs Held) (Behind source.procs Known) p.body
    uses_held Held Known place p here held known =
        uses_told Held Known p.body (λ u has. among_procs place p u here has)
        (λ u j has own to runs. held j (u, record { procedure = p; here = here; among = has; own = own; target = to }, runs))
        (λ u j has own to refers. known j (u, record { procedure = p; here = here; among = has; own = own; target = to }, refers))

    pub uses_wanted : (p : Procedure) → source.main ≡ Some p
        → UsesOnly (Behind source.procs (IsWanted source)) (Behind source.procs (IsReferred source)) p.body
    uses_wanted p main =
        uses_told (IsWanted source) (IsReferred source) p.body (λ u has. among_main p u main has)
        (λ u j has own to runs. of_main p u main has own runs to) (λ u j has own to refers. by_main p u main has own refers to)

    pub syscalls_procs : (exports : List Exported) → names ≡ names_of exports → (place : ℕ) (p : Procedure) → slice_get source.procs place ≡ Some p
        → SyscallsOnly (IsExportName exports) p.body
    syscalls_procs exports same place p here = syscalls_only (IsExportName exports) p.body (λ u has kernel. kernel_leads exports same u
        (among_procs place p u here has) kernel)

    pub syscalls_main : (exports : List Exported) → names ≡ names_of exports → (p : Procedure) → source.main ≡ Some p → SyscallsOnly
        (IsExportName exports) p.body
    syscalls_main exports same p main = syscalls_only (IsExportName exports) p.body (λ u has kernel. kernel_leads exports same u
        (among_main p u main has) kernel)
