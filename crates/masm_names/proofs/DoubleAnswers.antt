-- The least refusal among the definitions of a source.
use Rattle.std.proofs.Common.{◌≡◌, ℕ, suc, Bool, true, false, cond, List, [], ◌∷◌, map, length, take, drop, slice_get, Option, inl, inr, refl, sym, ap, subst, ◌∙◌}
use Rattle.std.proofs.lemmas.List.{take-map, take_at}
use Rattle.std.proofs.lemmas.Simd.{map-map}
use Rattle.std.specs.List.{filter}
use Rattle.masm_reading.specs.declared.constant.Const.{Const}
use Rattle.masm_tree.specs.declared.tree.Position.{Position}
use Rattle.masm_tree.specs.declared.tree.Proc.{Proc}
use Rattle.masm_tree.specs.Trees.{Procedure, Source, position_of}
use Rattle.masm_tree.specs.Views.{procedure_of}
use Rattle.masm_names.specs.declared.refusal.LinkCause.{LinkCause}
use Rattle.masm_names.specs.declared.refusal.LinkCause.TheVariants as causes
use Rattle.masm_names.specs.declared.refusal.Refusal.{Refusal}
use Rattle.masm_names.specs.Among.{Among}
use Rattle.masm_names.specs.Earlier.{earlier}
use Rattle.masm_names.specs.Extras.{exports_in, Extras}
use Rattle.masm_names.specs.Least.{FindsLeast}
use Rattle.masm_names.specs.Naming.{at_constant, exported_of, Doubles, second_constant, second_procedure, one_export_more}
use Rattle.masm_names.specs.Repeats.{IsDoubled, Repeats}
use Rattle.masm_names.specs.Uses.{place_in}
use Rattle.masm_names.proofs.DoubleLemmas.{slice_get-split, split_at, Among-mapped, Among-unmapped, split_repeats, repeats_split}
use Rattle.masm_names.proofs.LeastLemmas.{Either, FindsLeast-same, FindsLeast-earlier}

-- a procedure's name, and the place of its token
abbrev name_of : Proc → List ℕ
name_of p = p.name

abbrev place_of : Proc → Position
place_of p = record { line = p.line; column = p.column }

abbrev Repeated : List Procedure → Position → LinkCause → Type 0
Repeated procs = Repeats (λ p. p.name) position_of procs

-- the procedures of the tree, and those of the source
repeated_to : (procs : List Proc) (at : Position) (cause : LinkCause) → Repeats name_of place_of procs at cause
    → Repeated (map procedure_of procs) at cause
repeated_to procs at cause h =
    Among-mapped procedure_of (λ place p. IsDoubled (place_in (map (λ q. q.name) (map procedure_of procs))) p.name (position_of p)
    place) procs at cause
    (subst (λ names. Among (λ place x. IsDoubled (place_in names) x.name (place_of x) place) procs at cause)
    (sym (map-map (λ (q : Procedure). q.name) procedure_of procs)) h)

repeated_from : (procs : List Proc) (at : Position) (cause : LinkCause) → Repeated (map procedure_of procs) at cause
    → Repeats name_of place_of procs at cause
repeated_from procs at cause h =
    subst (λ names. Among (λ place x. IsDoubled (place_in names) x.name (place_of x) place) procs at cause)
    (map-map (λ (q : Procedure). q.name) procedure_of procs)
    (Among-unmapped procedure_of (λ place p. IsDoubled (place_in (map (λ q. q.name) (map procedure_of procs))) p.name
    (position_of p) place) procs at cause h)

exported-map : (procs : List Proc) → length (exported_of (map procedure_of procs)) ≡ exports_in procs
exported-map [] = refl
exported-map (p ∷ procs) = by p.exported (exported-map procs)
  where
    by : (b : Bool) → length (exported_of (map procedure_of procs)) ≡ exports_in procs
        → length (cond b (procedure_of p ∷ exported_of (map procedure_of procs)) (exported_of (map procedure_of procs)))
        ≡ length (cond b (p ∷ filter (λ q. q.exported) procs) (filter (λ q. q.exported) procs))
    by true e = ap suc e
    by false e = e

exported-take : (procs : List Proc) (i : ℕ) → length (exported_of (take i (map procedure_of procs))) ≡ exports_in (take i procs)
exported-take procs i = ap (λ ps. length (exported_of ps)) (take-map procedure_of i procs) ∙ exported-map (take i procs)

abbrev ExtraBy : List Procedure → ℕ → Procedure → Position → LinkCause → Type 0
ExtraBy procs place p at cause =
    (p.exported ≡ true) × (length (exported_of (take place procs)) ≡ 255) × (at ≡ position_of p) × (cause ≡ causes.TooManyExports)

abbrev Extra : List Procedure → Position → LinkCause → Type 0
Extra procs = Among (ExtraBy procs) procs

extra_to : (procs : List Proc) (at : Position) (cause : LinkCause) → Extras procs at cause → Extra (map procedure_of procs) at cause
extra_to procs at cause h =
    Among-mapped procedure_of (ExtraBy (map procedure_of procs)) procs at cause
    (h.0, (h.1.0, h.1.1, (h.1.2.0, exported-take procs h.0 ∙ h.1.2.1, h.1.2.2, h.1.2.3)))

extra_from : (procs : List Proc) (at : Position) (cause : LinkCause) → Extra (map procedure_of procs) at cause → Extras procs at cause
extra_from procs at cause h =
    let g = Among-unmapped procedure_of (ExtraBy (map procedure_of procs)) procs at cause h in
    (g.0, (g.1.0, g.1.1, (g.1.2.0, sym (exported-take procs g.0) ∙ g.1.2.1, g.1.2.2, g.1.2.3)))

module _ (source : Source) where
  abbrev Found : Position → LinkCause → Type 0
  Found = Either (Either (Repeats (λ c. c.name) at_constant source.consts) (Repeated source.procs)) (Extra source.procs)

  to_found : (at : Position) (cause : LinkCause) → Doubles source at cause → Found at cause
  to_found at cause (second_constant before c behind e h) =
      let f = split_repeats (λ d. d.name) source.consts before c behind e h in
      inl (inl (length before, (c, f.0, (f.1, refl, refl))))
  to_found at cause (second_procedure before p behind e h) =
      let f = split_repeats (λ q. q.name) source.procs before p behind e h in
      inl (inr (length before, (p, f.0, (f.1, refl, refl))))
  to_found at cause (one_export_more before p behind e exported count) =
      inr (
        length before,
        (
          p,
          ap (λ ps. slice_get ps (length before)) e ∙ slice_get-split before p behind,
          (
            exported,
            ap (λ ps. length (exported_of ps))
                (ap (take (length before)) e ∙ take_at before (p ∷ behind) (length before) refl) ∙ count,
            refl,
            refl,
          ),
        ),
      )

  moved : (at other : Position) (cause why : LinkCause) → at ≡ other → cause ≡ why → Doubles source other why → Doubles source at cause
  moved at other cause why is_at is_cause h = subst (λ a. Doubles source a cause) (sym is_at) (subst (Doubles source other) (sym is_cause) h)

  from_found : (at : Position) (cause : LinkCause) → Found at cause → Doubles source at cause
  from_found at cause (inl (inl (k, (c, e, (first, is_at, is_cause))))) =
      moved at _ cause _ is_at is_cause
      (second_constant (take k source.consts) c (drop (suc k) source.consts) (split_at source.consts k c e).0
      (repeats_split (λ d. d.name) source.consts k c e first))
  from_found at cause (inl (inr (k, (p, e, (first, is_at, is_cause))))) =
      moved at _ cause _ is_at is_cause
      (second_procedure (take k source.procs) p (drop (suc k) source.procs) (split_at source.procs k p e).0
      (repeats_split (λ q. q.name) source.procs k p e first))
  from_found at cause (inr (k, (p, e, (exported, count, is_at, is_cause)))) =
      moved at _ cause _ is_at is_cause (one_export_more (take k source.procs) p (drop (suc k) source.procs)
      (split_at source.procs k p e).0 exported count)

-- the least refusal of the constants, of the procedures and of the exports
pub FindsLeast-doubles : (consts : List Const) (procs : List Proc) (main : Option Procedure) (a b c : Option Refusal)
    → FindsLeast (Repeats (λ d. d.name) at_constant consts) a → FindsLeast (Repeats name_of place_of procs) b → FindsLeast (Extras procs) c
    → FindsLeast (Doubles (record { consts = consts; procs = map procedure_of procs; main = main })) (earlier (earlier a b) c)
FindsLeast-doubles consts procs main a b c p q r =
    let source : Source = record { consts = consts; procs = map procedure_of procs; main = main } in
    let mid = FindsLeast-same (Repeats name_of place_of procs) (Repeated (map procedure_of procs)) b (repeated_to procs) (repeated_from procs) q in
    let last = FindsLeast-same (Extras procs) (Extra (map procedure_of procs)) c (extra_to procs) (extra_from procs) r in
    FindsLeast-same (Found source) (Doubles source) (earlier (earlier a b) c) (from_found source) (to_found source)
    (FindsLeast-earlier (Either (Repeats (λ d. d.name) at_constant consts) (Repeated (map procedure_of procs)))
    (Extra (map procedure_of procs)) (earlier a b) c
    (FindsLeast-earlier (Repeats (λ d. d.name) at_constant consts) (Repeated (map procedure_of procs)) a b p mid) last)
