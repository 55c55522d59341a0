-- Uses that lead nowhere, uses that lead back, and dynexecs that are reached from their targets.
use Rattle.std.specs.Prelude.{◌≡◌, ℕ, Bool, true, false, not, ◌&&◌, List, Option, Some, None}
use Rattle.masm_tree.specs.declared.tree.Position.{Position}
use Rattle.masm_graph.specs.declared.links.Link.{Link}
use Rattle.masm_graph.specs.declared.links.Target.{Target}
use Rattle.masm_graph.specs.declared.links.Target.TheVariants as targets
use Rattle.masm_names.specs.declared.refusal.LinkCause.{LinkCause}
use Rattle.masm_names.specs.declared.refusal.LinkCause.TheVariants as causes
use Rattle.masm_names.specs.declared.refusal.Refusal.{Refusal}
use Rattle.masm_names.specs.Among.{Among}
use Rattle.masm_names.specs.Earlier.{is_no_later}
use Rattle.graphs.specs.Graph.{Leads}

abbrev pub missing_cause : Target → Option LinkCause
missing_cause (targets.Own place) = None
missing_cause targets.Kernel = None
missing_cause targets.Unknown = Some causes.UnknownProcedure
missing_cause targets.NotInKernel = Some causes.NotInKernel

-- the use leads nowhere
abbrev pub LeadsNowhere : Link → Position → LinkCause → Type 0
LeadsNowhere link at cause = (at ≡ link.at) × (missing_cause link.target ≡ Some cause)

abbrev pub Missing : List Link → Position → LinkCause → Type 0
Missing row = Among (λ place link. LeadsNowhere link) row

-- the use leads to one of these places
abbrev pub IsReturn : (ℕ → Type 0) → Link → Position → LinkCause → Type 0
IsReturn Back link at cause = (at ≡ link.at) × (cause ≡ causes.Recursive) × ((place : ℕ) × (link.target ≡ targets.Own place) × Back place)

abbrev pub Returns : (ℕ → Type 0) → List Link → Position → LinkCause → Type 0
Returns Back row = Among (λ place link. IsReturn Back link) row

-- the uses that lead to a procedure from which their own is reached, where the graph says who uses whom
abbrev pub Recursions : List (List ℕ) → List (List Link) → Position → LinkCause → Type 0
Recursions users rows = Among (λ user row. Returns (Leads users user) row) rows

-- the dynexec stands in a procedure that is reached from a target
abbrev pub IsRefusedDynexec : Type 0 → Position → Position → LinkCause → Type 0
IsRefusedDynexec Reached dynexec at cause = Reached × (at ≡ dynexec) × (cause ≡ causes.Recursive)

-- the dynexecs in procedures that are reached, where each procedure has a row of its dynexecs
abbrev pub Dynexecs : (ℕ → Type 0) → List (List Position) → Position → LinkCause → Type 0
Dynexecs Reached rows = Among (λ place row. Among (λ k dynexec. IsRefusedDynexec (Reached place) dynexec) row) rows

abbrev pub is_own : Target → Bool
is_own (targets.Own place) = true
is_own target = false

-- a recursion at this place would come before the first refusal so far
abbrev pub comes_first : Option Refusal → Position → Bool
comes_first None at = true
comes_first (Some first) at = not (is_no_later first (record { at = at; cause = causes.Recursive }))

-- the use may be the first that is refused
abbrev pub waits : Option Refusal → Link → Bool
waits first link = is_own link.target && comes_first first link.at
