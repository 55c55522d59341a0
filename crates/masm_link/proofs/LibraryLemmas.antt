-- A library's procedures behind those of a source.
use Rattle.std.proofs.Common.{◌≡◌, ◌↔◌, ℕ, zero, suc, ◌+◌, ◌<◌, Bool, true, false, cond, not, ◌&&◌, ◌||◌, List, [], ◌∷◌, ◌++◌, map, length, slice_get, Option, Some, None, ◌⊎◌, inl, inr, refl, sym, ap, ap₂, subst, ◌∙◌, append-nil, bytes_eq, arith}
use Rattle.std.proofs.lemmas.Grind.{flat_map-append}
use Rattle.std.proofs.lemmas.List.{map-append}
use Rattle.std.proofs.lemmas.Slice.Eq.{bytes_eq-Decides}
use Rattle.std.specs.List.{AllByRecursion, Contains, filter, flat_map, list_all}
use Rattle.std.specs.Option.{option_map, option_to_list}
use Rattle.masm_instr.specs.Instructions.{Instruction, is_in_form, names_local}
use Rattle.masm_expand.specs.Expansion.{expansion}
use Rattle.masm_tree.specs.declared.tree.Position.{Position}
use Rattle.masm_tree.specs.Forms.{BodyIsInForm, ProcedureIsInForm}
use Rattle.masm_tree.specs.Locals.{HasLocals, ProcedureFits, SourceFits}
use Rattle.masm_tree.specs.Trees.{Procedure, Source}
use Rattle.masm_names.specs.declared.refusal.LinkCause.{LinkCause}
use Rattle.masm_names.specs.declared.refusal.LinkCause.TheVariants as causes
use Rattle.masm_names.specs.Naming.{Dangles, unknown, not_in_kernel, recursive, dynamic}
use Rattle.masm_names.specs.Uses.{Use, all_uses, dynexecs_of, each_once, first_place, uses_of, HasDynexec, UsedIn}
use Rattle.masm_uses.proofs.UsedLemmas.{unmapped}
use Rattle.masm_flat.specs.Blocks.{Block, Piece, Operation}
use Rattle.masm_flat.specs.Lists.{Outside, ListOf, own, IsList, nothing, instr, first_procedure}
use Rattle.masm_flat.proofs.Once.{list_of_once}
use Rattle.masm_link.specs.Libraries.{LibraryProcedure, operations_of, is_plain, are_plain, nowhere, plain_body, procedure_in, defines, first_in, undefined_in, with_library}
use Rattle.masm_link.specs.LibraryLaws.{EmptyLibrary, IsUnknown, LibrariesAreBehind}

-- Procedures behind others.
first_own : (xs ys : List Procedure) (name : List ℕ) (p : Procedure) → first_procedure xs name ≡ Some p → first_procedure (xs ++ ys) name ≡ Some p
first_own [] ys name p e = cc
first_own (x ∷ xs) ys name p e = by (bytes_eq x.name name) (λ later. first_own xs ys name p later) e
  where
    by : (b : Bool) → (first_procedure xs name ≡ Some p → first_procedure (xs ++ ys) name ≡ Some p)
        → cond b (Some x) (first_procedure xs name) ≡ Some p → cond b (Some x) (first_procedure (xs ++ ys) name) ≡ Some p
    by true later is = is
    by false later is = later is

first_other : (xs ys : List Procedure) (name : List ℕ) → first_procedure xs name ≡ None → first_procedure (xs ++ ys) name ≡ first_procedure ys name
first_other [] ys name e = refl
first_other (x ∷ xs) ys name e = by (bytes_eq x.name name) (λ later. first_other xs ys name later) e
  where
    by : (b : Bool) → (first_procedure xs name ≡ None → first_procedure (xs ++ ys) name ≡ first_procedure ys name)
        → cond b (Some x) (first_procedure xs name) ≡ None → cond b (Some x) (first_procedure (xs ++ ys) name) ≡ first_procedure ys name
    by true later is = cc
    by false later is = later is

first_mapped : (library : List LibraryProcedure) (name : List ℕ)
    → first_procedure (map procedure_in library) name ≡ option_map procedure_in (first_in library name)
first_mapped [] name = refl
first_mapped (p ∷ library) name = by (bytes_eq p.name name) (first_mapped library name)
  where
    by : (b : Bool) → first_procedure (map procedure_in library) name ≡ option_map procedure_in (first_in library name)
        → cond b (Some (procedure_in p)) (first_procedure (map procedure_in library) name)
        ≡ option_map procedure_in (cond b (Some p) (first_in library name))
    by true later = refl
    by false later = later

-- Names that a source does not define.
undefined : (procs : List Procedure) (name : List ℕ) → first_procedure procs name ≡ None → defines procs name ≡ false
undefined [] name e = refl
undefined (p ∷ procs) name e = by (bytes_eq p.name name) (λ later. undefined procs name later) e
  where
    by : (b : Bool) → (first_procedure procs name ≡ None → defines procs name ≡ false)
        → cond b (Some p) (first_procedure procs name) ≡ None → (b || defines procs name) ≡ false
    by true later is = cc
    by false later is = later is

first_kept : (procs : List Procedure) (library : List LibraryProcedure) (name : List ℕ) → defines procs name ≡ false
    → first_in (undefined_in procs library) name ≡ first_in library name
first_kept procs [] name e = refl
first_kept procs (p ∷ library) name e = by (bytes_eq p.name name) refl (defines procs p.name) refl (first_kept procs library name e)
  where
    by : (b : Bool) → bytes_eq p.name name ≡ b → (hidden : Bool) → defines procs p.name ≡ hidden
        → first_in (undefined_in procs library) name ≡ first_in library name
        → first_in (cond (not hidden) (p ∷ undefined_in procs library) (undefined_in procs library)) name ≡ cond b (Some p) (first_in library name)
    by true is true there later =
        let same = (bytes_eq-Decides p.name name).0 is in absurd (let other = ap (defines procs) same in cc)
    by true is false there later = ap (λ c. cond c (Some p) (first_in (undefined_in procs library) name)) is
    by false is true there later = later
    by false is false there later = ap (λ c. cond c (Some p) (first_in (undefined_in procs library) name)) is ∙ later

none_less : (o : Option ℕ) → option_map (λ i. i + 1) o ≡ None → o ≡ None
none_less None e = refl
none_less (Some k) e = cc

no_procedure : (procs : List Procedure) (name : List ℕ) → first_place procs name ≡ None → first_procedure procs name ≡ None
no_procedure [] name e = refl
no_procedure (p ∷ procs) name e = by (bytes_eq p.name name) (λ later. no_procedure procs name later) e
  where
    by : (b : Bool) → (first_place procs name ≡ None → first_procedure procs name ≡ None)
        → cond b (Some 0) (option_map (λ i. i + 1) (first_place procs name)) ≡ None → cond b (Some p) (first_procedure procs name) ≡ None
    by true later is = cc
    by false later is = later (none_less (first_place procs name) is)

no_place : (procs : List Procedure) (name : List ℕ) → first_procedure procs name ≡ None → first_place procs name ≡ None
no_place [] name e = refl
no_place (p ∷ procs) name e = by (bytes_eq p.name name) (λ later. no_place procs name later) e
  where
    by : (b : Bool) → (first_procedure procs name ≡ None → first_place procs name ≡ None)
        → cond b (Some p) (first_procedure procs name) ≡ None → cond b (Some 0) (option_map (λ i. i + 1) (first_place procs name)) ≡ None
    by true later is = cc
    by false later is = ap (option_map (λ i. i + 1)) (later is)

-- Bodies of instructions alone.
plain_list : (source : Source) (out : Outside) (instructions : List Instruction)
    → IsList source out 0 (plain_body instructions) (map Operation (flat_map (λ i. expansion i.name i.numbers 0) instructions))
plain_list source out [] = nothing
plain_list source out (i ∷ more) =
    subst (IsList source out 0 (plain_body (i ∷ more)))
    (sym (map-append Operation (expansion i.name i.numbers 0) (flat_map (λ j. expansion j.name j.numbers 0) more)))
    (instr nowhere i (plain_list source out more))

plain_uses : (instructions : List Instruction) → uses_of (plain_body instructions) ≡ []
plain_uses [] = refl
plain_uses (i ∷ more) = plain_uses more

plain_dynexecs : (instructions : List Instruction) → dynexecs_of (plain_body instructions) ≡ []
plain_dynexecs [] = refl
plain_dynexecs (i ∷ more) = plain_dynexecs more

no_uses : (library : List LibraryProcedure) → flat_map (λ (p : Procedure). uses_of p.body) (map procedure_in library) ≡ []
no_uses [] = refl
no_uses (p ∷ library) = ap₂ (λ a b. a ++ b) (plain_uses p.instructions) (no_uses library)

-- a procedure of the whole is one of the source's own or one of the library
own_or_library : (procs : List Procedure) (library : List LibraryProcedure) (i : ℕ) (p : Procedure)
    → slice_get (procs ++ map procedure_in library) i ≡ Some p → (i < length procs) ⊎ ((q : LibraryProcedure) × (p ≡ procedure_in q))
own_or_library [] library i p e = let found = unmapped procedure_in library i p e in inr (found.0, found.2)
own_or_library (q ∷ procs) library zero p e = inl (omega arith)
own_or_library (q ∷ procs) library (suc i) p e = elim (own_or_library procs library i p e) [
  | inl low ↦ inl (omega arith)
  | inr found ↦ inr found
]

module _ (library : List LibraryProcedure) (source : Source) where
  abbrev whole : Source
  whole = with_library library source

  abbrev kept : List LibraryProcedure
  kept = undefined_in source.procs library

  own_leads : (name : List ℕ) (p : Procedure) → first_procedure source.procs name ≡ Some p → first_procedure whole.procs name ≡ Some p
  own_leads name p e = first_own source.procs (map procedure_in kept) name p e

  other_leads : (name : List ℕ) → first_procedure source.procs name ≡ None
      → first_procedure whole.procs name ≡ option_map procedure_in (first_in library name)
  other_leads name none =
      first_other source.procs (map procedure_in kept) name none
      ∙ (first_mapped kept name
      ∙ ap (option_map procedure_in) (first_kept source.procs library name (undefined source.procs name none)))

  library_list : (out : Outside) (name : List ℕ) (p : LibraryProcedure) (xs : List (Piece Block)) → first_procedure source.procs name ≡ None
      → first_in library name ≡ Some p → ListOf whole out name xs ↔ (xs ≡ map Operation (operations_of p))
  library_list out name p xs none found =
      let leads : first_procedure whole.procs name ≡ Some (procedure_in p) = other_leads name none ∙ ap (option_map procedure_in) found in
      let here : ListOf whole out name (map Operation (operations_of p)) = own name leads (plain_list whole out p.instructions) in
      (λ d. list_of_once whole out d here, λ is. subst (ListOf whole out name) (sym is) here)

  same_uses : all_uses whole ≡ all_uses source
  same_uses =
      let uses : Procedure → List Use = λ p. uses_of p.body in
      let main = option_to_list source.main in
      flat_map-append uses whole.procs main
      ∙ (ap (λ us. us ++ flat_map uses main)
      (flat_map-append uses source.procs (map procedure_in kept)
      ∙ (ap (λ us. flat_map uses source.procs ++ us) (no_uses kept) ∙ append-nil (flat_map uses source.procs)))
      ∙ sym (flat_map-append uses source.procs main))

  user_is_own : (i : ℕ) (u : Use) (j : ℕ) → UsedIn whole.procs i u j → i < length source.procs
  user_is_own i u j used = elim (own_or_library source.procs kept i used.procedure used.here) [
    | inl low ↦ low
    | inr found ↦
        let none : uses_of used.procedure.body ≡ [] = ap (λ (p : Procedure). uses_of p.body) found.1 ∙ plain_uses found.0.instructions in
        let among : Contains [] u = subst (λ us. Contains us u) none used.among in
        absurd (omega (arith, among.1))
  ]

  dynamic_is_own : (i : ℕ) → HasDynexec whole.procs i → i < length source.procs
  dynamic_is_own i has = elim (own_or_library source.procs kept i has.procedure has.here) [
    | inl low ↦ low
    | inr found ↦
        let none : dynexecs_of has.procedure.body ≡ [] = ap (λ (p : Procedure). dynexecs_of p.body) found.1 ∙ plain_dynexecs found.0.instructions in
        let among : Contains [] has.at = subst (λ ats. Contains ats has.at) none has.among in
        absurd (omega (arith, among.1))
  ]

  neither : (name : List ℕ) → first_place whole.procs name ≡ None → (first_place source.procs name ≡ None) × (first_in library name ≡ None)
  neither name e = by (first_procedure source.procs name) refl
    where
      none : first_procedure whole.procs name ≡ None
      none = no_procedure whole.procs name e

      none_in : (o : Option LibraryProcedure) → option_map procedure_in o ≡ None → o ≡ None
      none_in None e' = refl
      none_in (Some p) e' = cc

      by : (o : Option Procedure) → first_procedure source.procs name ≡ o → (first_place source.procs name ≡ None) × (first_in library name ≡ None)
      by (Some p) is = absurd (let there = own_leads name p is in let gone = none in cc)
      by None is = (no_place source.procs name is, none_in (first_in library name) (sym (other_leads name is) ∙ none))

  is_unknown : (kernel : List (List ℕ)) (at : Position) (cause : LinkCause) → Dangles whole kernel at cause → cause ≡ causes.UnknownProcedure
      → IsUnknown library source at
  is_unknown kernel at cause (unknown u among owner none) is =
      let missing = neither u.name none in record {
        by = u;
        among = subst (λ us. Contains us u) same_uses among;
        own = owner;
        here = refl;
        undefined = missing.0;
        missing = missing.1;
      }
  is_unknown kernel at cause (not_in_kernel u among owner none) is = absurd (cc)
  is_unknown kernel at cause (recursive i u j used back) is = absurd (cc)
  is_unknown kernel at cause (dynamic i p at' j here among target back) is = absurd (cc)

  is_refused : (kernel : List (List ℕ)) (at : Position) → IsUnknown library source at → Dangles whole kernel at causes.UnknownProcedure
  is_refused kernel at is =
      let missing = no_procedure source.procs is.by.name is.undefined in
      let none : first_procedure whole.procs is.by.name ≡ None = other_leads is.by.name missing ∙ ap (option_map procedure_in) is.missing in
      subst (λ a. Dangles whole kernel a causes.UnknownProcedure) is.here
      (unknown is.by (subst (λ us. Contains us is.by) (sym same_uses) is.among) is.own (no_place whole.procs is.by.name none))

pub libraries_are_behind : LibrariesAreBehind
libraries_are_behind library source = record {
  own = own_leads library source;
  other = other_leads library source;
  list = library_list library source;
  unknown = λ kernel at.
      (λ d. is_unknown library source kernel at causes.UnknownProcedure d refl, λ is. is_refused library source kernel at is);
  uses = same_uses library source;
  users = user_is_own library source;
  dynexecs = dynamic_is_own library source;
  targets = ap (λ us. each_once (map (λ (u : Use). u.name) (filter (λ (u : Use). u.refers) us))) (same_uses library source);
}

pub empty_library : EmptyLibrary
empty_library source = ap (λ ps. record { consts = source.consts; procs = ps; main = source.main }) (append-nil source.procs)

-- What is plain names no local and is in form.
plain_parts : (a b : Bool) → (a && not b) ≡ true → (a ≡ true) × (b ≡ false)
plain_parts true true e = cc
plain_parts true false e = (refl, refl)
plain_parts false b e = cc

both_true : (a b : Bool) → (a && b) ≡ true → (a ≡ true) × (b ≡ true)
both_true true b e = (refl, e)
both_true false b e = cc

plain_fits : (instructions : List Instruction) → list_all is_plain instructions ≡ true → HasLocals 0 (plain_body instructions)
plain_fits [] e = tt
plain_fits (i ∷ more) e =
    let both = both_true (is_plain i) (list_all is_plain more) e in
    let none = (plain_parts (is_in_form i.name i.numbers) (names_local i.name) both.0).1 in
    (λ names. absurd (cc), plain_fits more both.1)

plain_is_in_form : (instructions : List Instruction) → list_all is_plain instructions ≡ true → BodyIsInForm (plain_body instructions)
plain_is_in_form [] e = tt
plain_is_in_form (i ∷ more) e =
    let both = both_true (is_plain i) (list_all is_plain more) e in
    ((plain_parts (is_in_form i.name i.numbers) (names_local i.name) both.0).0, plain_is_in_form more both.1)

-- what holds of each procedure of the source and of each of the library holds of each of the whole
all_behind : (P : Procedure → Type 0) (procs : List Procedure) (library : List LibraryProcedure)
    → ((p : LibraryProcedure) → list_all is_plain p.instructions ≡ true → P (procedure_in p)) → are_plain library ≡ true
    → AllByRecursion P procs → (keep : LibraryProcedure → Bool) → AllByRecursion P (procs ++ map procedure_in (filter keep library))
all_behind P [] [] each plain all keep = tt
all_behind P [] (p ∷ library) each plain all keep =
    let both = both_true (list_all is_plain p.instructions) (are_plain library) plain in
    by (each p both.0) (all_behind P [] library each both.1 tt keep) (keep p)
  where
    by : P (procedure_in p) → AllByRecursion P (map procedure_in (filter keep library)) → (b : Bool)
        → AllByRecursion P (map procedure_in (cond b (p ∷ filter keep library) (filter keep library)))
    by here later true = (here, later)
    by here later false = later
all_behind P (q ∷ procs) library each plain all keep = (all.0, all_behind P procs library each plain all.1 keep)

pub whole_fits : (library : List LibraryProcedure) (source : Source) → are_plain library ≡ true → SourceFits source
    → SourceFits (with_library library source)
whole_fits library source plain fits = record {
  procs = all_behind ProcedureFits source.procs library (λ p e. plain_fits p.instructions e) plain fits.procs
      (λ p. not (defines source.procs p.name));
  main = fits.main;
}

pub whole_is_in_form : (library : List LibraryProcedure) (source : Source) → are_plain library ≡ true
    → AllByRecursion ProcedureIsInForm source.procs → AllByRecursion ProcedureIsInForm (with_library library source).procs
whole_is_in_form library source plain forms =
    all_behind ProcedureIsInForm source.procs library (λ p e. (omega arith, plain_is_in_form p.instructions e)) plain forms
    (λ p. not (defines source.procs p.name))
