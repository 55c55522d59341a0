-- Uses that lead back, with marks for the places that lead there and without.
use Rattle.masm_uses.proofs.Words.{◌≡◌, ℕ, ◌<◌, false, not, ◌&&◌, List, length, get_or, Option, Some, None, inl, inr, ◌↔◌, refl, sym, ap, subst, ◌∙◌}
use Rattle.masm_uses.proofs.Words.{cases_Bool, false≢true, list_any-from_Any, list_any, Position, Link, LinkCause, Refusal, Returns, is_own, comes_first}
use Rattle.masm_uses.proofs.Words.{waits, FindsLeast, HasOwn, IsNoLater, is_no_later-tells, FindsLeast-same}
use Rattle.std.proofs.lemmas.Option.{slice_get_within, get_or_from_slice_get}
use Rattle.masm_names.specs.declared.refusal.LinkCause.TheVariants as causes

pub Returns-same : (Back Other : ℕ → Type 0) (row : List Link) (r : Option Refusal) → ((place : ℕ) → Back place ↔ Other place)
    → FindsLeast (Returns Back row) r → FindsLeast (Returns Other row) r
Returns-same Back Other row r same =
    FindsLeast-same (Returns Back row) (Returns Other row) r
    (λ at cause h. let is = h.1.2 in (h.0, (h.1.0, h.1.1, (is.0, is.1, (is.2.0, is.2.1, (same is.2.0).0 is.2.2)))))
    (λ at cause h. let is = h.1.2 in (h.0, (h.1.0, h.1.1, (is.0, is.1, (is.2.0, is.2.1, (same is.2.0).1 is.2.2)))))

comes_later : (first : Option Refusal) (at : Position) → comes_first first at ≡ false
    → (r : Refusal) × (first ≡ Some r) × IsNoLater r.at r.cause at causes.Recursive
comes_later None at e = absurd (false≢true (sym e))
comes_later (Some r) at e = elim (is_no_later-tells r (record { at = at; cause = causes.Recursive })) [
  | inl ahead ↦ (r, refl, ahead.1)
  | inr behind ↦ absurd (false≢true (sym e ∙ ap not behind.0))
]

-- where no use waits, none comes before the first refusal
pub none_waits : (first : Option Refusal) (row : List Link) (Back : ℕ → Type 0) → list_any (waits first) row ≡ false
    → (at : Position) (cause : LinkCause) → Returns Back row at cause → (r : Refusal) × (first ≡ Some r) × IsNoLater r.at r.cause at cause
none_waits first row Back none at cause h =
    let link = h.1.0 in
    let within : h.0 < length row = slice_get_within row h.0 link h.1.1 in
    let is : get_or row h.0 link ≡ link = get_or_from_slice_get row h.0 link link h.1.1 in
    let has = h.1.2 in
    elim (cases_Bool (waits first link)) [
      | inl waiting ↦ absurd (false≢true (sym none ∙ list_any-from_Any (waits first) row (h.0, link, within, is, waiting)))
      | inr passed ↦
          let later = comes_later first link.at (sym (ap (λ t. is_own t && comes_first first link.at) has.2.1) ∙ passed) in (
            later.0,
            later.1,
            subst (λ a. IsNoLater later.0.at later.0.cause a cause) (sym has.0)
                (subst (IsNoLater later.0.at later.0.cause link.at) (sym has.1) later.2),
          )
    ]

-- where no use leads back, none comes at all
pub none_back : (first : Option Refusal) (row : List Link) (Back : ℕ → Type 0) → ((place : ℕ) → HasOwn row place → ¬ (Back place))
    → (at : Position) (cause : LinkCause) → Returns Back row at cause → (r : Refusal) × (first ≡ Some r) × IsNoLater r.at r.cause at cause
none_back first row Back none at cause h =
    let link = h.1.0 in
    let is = h.1.2.2 in
    absurd (none is.0 (h.0, link, slice_get_within row h.0 link h.1.1, get_or_from_slice_get row h.0 link link h.1.1, is.1) is.2)
