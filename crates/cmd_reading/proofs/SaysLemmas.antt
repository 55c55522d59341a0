-- What is known of words that were read.
use Rattle.std.proofs.Common.{◌≡◌, ◌∙◌, ◌<◌, ℕ, zero, suc, Bool, true, false, refl, sym, ap, ap₂, subst, List, [], ◌∷◌, length, Option, Some, None, arith, map, inl, inr}
use Rattle.std.specs.Prelude.{option_and_then, not, is_some}
use Rattle.std.specs.List.{list_any, slice_index_or}
use Rattle.std.specs.Borrow.{Bor}
use Rattle.std.specs.Str.{bytes_eq}
use Rattle.std.proofs.lemmas.Bool.{cases_Bool, not-false, or_parts}
use Rattle.std.proofs.lemmas.List.Folds.{list_any-append}
use Rattle.std.proofs.lemmas.Option.{none-some, option_and_then_some, same_Some}
use Rattle.clap.specs.Words.{Text, first_value}
use Rattle.clap.specs.declared.parser.matches.Found.{Found}
use Rattle.cmd_reading.specs.Form.{WordForm}
use Rattle.cmd_reading.proofs.OneByOne.{Use, has_use, joined, read, text_of, with_needs}
use Rattle.cmd_reading.proofs.FormUses.{clap_form, form_uses, needs_of}

abbrev pub lacks_one : List Use → List Text → Bool
lacks_one us ids = list_any (λ id. not (has_use id us)) ids

needs-met : (needs : List Text) (o : Option (List Use)) (us : List Use) → option_and_then (with_needs needs) o ≡ Some us
    → (o ≡ Some us) × (lacks_one us needs ≡ false)
needs-met needs None us e = absurd (cc)
needs-met needs (Some vs) us e = elim (cases_Bool (lacks_one vs needs)) [
  | inl l ↦ absurd (none-some us (rw l at e))
  | inr l ↦ let same : vs ≡ us = same_Some vs us (rw l at e) in (ap Some same, subst (λ ws. lacks_one ws needs ≡ false) same l)
]

pub form-needs : (f : WordForm) (words : List Text) (us : List Use) → form_uses f words ≡ Some us
    → (lacks_one us f.places ≡ false) × (lacks_one us f.needed ≡ false)
form-needs f words us e = or_parts _ _ (sym (list_any-append _ f.places f.needed) ∙ (needs-met (needs_of f) _ us e).1)

pub form-joined : (f : WordForm) (words : List Text) (us : List Use) → form_uses f words ≡ Some us
    → (vs : List Use) × (read (clap_form f) None 1 words ≡ Some vs) × (joined [] vs ≡ Some us)
form-joined f words us e =
    option_and_then_some (joined []) (read (clap_form f) None 1 words) us (needs-met (needs_of f) _ us e).0 (λ vs is once. (vs, is, once))

pub some-text : (id : Text) (us : List Use) → has_use id us ≡ is_some (text_of id us)
some-text id [] = refl
some-text id (u ∷ us) = elim (cases_Bool (bytes_eq u.0 id)) [ inl e ↦ rw e refl | inr e ↦ rw e (some-text id us) ]

-- each of them has a text
pub each-there : (ids : List (Bor Text)) (us : List Use) → lacks_one us (map (λ s. s.now) ids) ≡ false
    → (k : ℕ) (d : Bor Text) → k < length ids → is_some (text_of (slice_index_or ids k d).now us) ≡ true
each-there [] us e k d l = absurd (omega (arith, l))
each-there (x ∷ xs) us e zero d l = sym (some-text x.now us) ∙ not-false _ (or_parts _ _ e).0
each-there (x ∷ xs) us e (suc k) d l = each-there xs us (or_parts (not (has_use x.now us)) _ e).1 k d (omega (arith, l))

-- what was found of them are their texts
pub texts-are : (m : Found) (us : List Use) → ((id : Text) → first_value m id ≡ text_of id us) → (ids : List (Bor Text))
    → map (λ (id : Bor Text). first_value m id.now) ids ≡ map (λ id. text_of id us) (map (λ s. s.now) ids)
texts-are m us h [] = refl
texts-are m us h (x ∷ xs) = ap₂ (λ (t : Option Text) (ts : List (Option Text)). t ∷ ts) (h x.now) (texts-are m us h xs)
