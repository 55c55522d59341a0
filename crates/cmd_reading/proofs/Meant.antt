-- What was read of words, and what the form says of them.
use Rattle.std.proofs.Common.{◌≡◌, ◌∙◌, ◌+◌, ◌≤◌, ℕ, true, false, refl, sym, ap, ap₂, subst, List, [], ◌∷◌, length, map, Option, Some, None, arith, inl, inr}
use Rattle.std.specs.Prelude.{not, ◌==◌, is_some}
use Rattle.std.specs.List.{range_with_len}
use Rattle.std.proofs.lemmas.Bool.{cases_Bool, not-false}
use Rattle.std.proofs.lemmas.Bool.Decides.{nat_tests}
use Rattle.std.proofs.lemmas.List.Folds.{list_any-append}
use Rattle.clap.specs.Words.{Text}
use Rattle.cmd_words.specs.Words.{CommandPart, anything, parts_from, positional_at, value_of}
use Rattle.cmd_reading.specs.Form.{WordForm, IsForm, dashed}
use Rattle.cmd_reading.specs.Meaning.{AreThere, IsThere, FormTexts, MayBeMeant, HasForm, texts_in}
use Rattle.cmd_reading.proofs.Members.{In, here, in-left, in-right, later, none-in}
use Rattle.cmd_reading.proofs.OneByOne.{Use, has_use, read, text_of}
use Rattle.cmd_reading.proofs.FormUses.{clap_form, form_uses, needs_of, place_from}
use Rattle.cmd_reading.proofs.PartUses.{AreUses, are-uses, uses-are}
use Rattle.cmd_reading.proofs.SaysLemmas.{form-joined, form-needs, lacks_one, some-text}
use Rattle.cmd_reading.proofs.PartLemmas.{words-close}
use Rattle.cmd_reading.proofs.PartForm.{NoRepeat, Reaches, form-holds, form-uses-of, join-once, once-joins, place-there}
use Rattle.cmd_reading.proofs.PartTexts.{option-text, place-in, place-text}
use Rattle.cmd_reading.proofs.PlainParts.{meant-plain, plain-uses}

-- ---- the texts of names

place-after : (j : ℕ) (ids : List Text) (i : ℕ) {id : Text} → place_from j ids i ≡ Some id → j ≤ i
place-after j [] i e = absurd (cc)
place-after j (x ∷ xs) i e = elim (cases_Bool (j == i)) [
  | inl h ↦ grind (arith, nat_tests)
  | inr h ↦ let l = place-after (j + 1) xs i (rw h at e) in omega (arith, l)
]

module _ (us : List Use) (parts : List CommandPart) where
  places-are : (k : ℕ) (ids : List Text) → ((i : ℕ) (id : Text) → place_from (1 + k) ids (1 + i) ≡ Some id → text_of id us ≡ positional_at i parts)
      → map (λ id. text_of id us) ids ≡ map (λ i. positional_at i parts) (range_with_len k (length ids))
  places-are k [] h = refl
  places-are k (x ∷ xs) h =
      ap₂ (λ (t : Option Text) (ts : List (Option Text)). t ∷ ts) (h k x (rw (same k) refl)) (places-are (k + 1) xs (λ i id e. h i id (behind i e)))
    where
      same : (k : ℕ) → (1 + k == 1 + k) ≡ true
      same k = grind (arith, nat_tests)

      next : (k : ℕ) → 1 + k + 1 ≡ 1 + (k + 1)
      next k = omega arith

      apart : (i : ℕ) → 1 + (k + 1) ≤ 1 + i → (1 + k == 1 + i) ≡ false
      apart i l = grind (arith, nat_tests)

      behind : (i : ℕ) {id : Text} → place_from (1 + (k + 1)) xs (1 + i) ≡ Some id → place_from (1 + k) (x ∷ xs) (1 + i) ≡ Some id
      behind i e = rw (apart i (place-after (1 + (k + 1)) xs (1 + i) e), next k) e

  values-are : (names : List Text) → ((n : Text) → In n names → text_of n us ≡ value_of (dashed n) parts)
      → map (λ id. text_of id us) names ≡ map (λ n. value_of (dashed n) parts) names
  values-are [] h = refl
  values-are (x ∷ xs) h = ap₂ (λ (t : Option Text) (ts : List (Option Text)). t ∷ ts) (h x here) (values-are xs (λ n i. h n (later i)))

-- the texts of uses, list by list
abbrev texts_used : WordForm → List Use → FormTexts
texts_used f us = record {
  places = map (λ id. text_of id us) f.places;
  needed = map (λ id. text_of id us) f.needed;
  free = map (λ id. text_of id us) f.free;
}

abbrev lists : List (Option Text) → List (Option Text) → List (Option Text) → FormTexts
lists places needed free = record { places = places; needed = needed; free = free }

pub texts-same : {p q n m e f : List (Option Text)} → p ≡ q → n ≡ m → e ≡ f → lists p n e ≡ lists q m f
texts-same a b c = cc

none-lacks : (us : List Use) (ids : List Text) → AreThere (map (λ id. text_of id us) ids) → lacks_one us ids ≡ false
none-lacks us [] h = refl
none-lacks us (id ∷ ids) h = go (text_of id us) (some-text id us) h.0 (none-lacks us ids h.1)
  where
    go : (o : Option Text) → has_use id us ≡ is_some o → IsThere o → lacks_one us ids ≡ false → lacks_one us (id ∷ ids) ≡ false
    go None e there rest = absurd there
    go (Some t) e there rest = rw e rest

module _ (f : WordForm) (h : IsForm f) (words : List Text) where
  abbrev parts : List CommandPart
  parts = parts_from anything words

  used-texts : {us : List Use} → AreUses f 1 parts us → texts_used f us ≡ texts_in f words
  used-texts {us} r = texts-same
      (places-are us parts 0 f.places (λ i id at. place-text f h i at r))
      (values-are us parts f.needed (λ n i. option-text f h (in-left i f.free) r))
      (values-are us parts f.free (λ n i. option-text f h (in-right f.needed i) r))

  -- what was read is what the words say: the form, and the texts of uses
  pub read-says : (us : List Use) → form_uses f words ≡ Some us → HasForm f words × (texts_used f us ≡ texts_in f words)
  read-says us e =
      let p = form-joined f words us e in
      let once = join-once p.0 us p.2 in
      let r : AreUses f 1 parts us = subst (AreUses f 1 parts) once.1 (are-uses f 1 parts p.0 ((words-close f 1 words).below p.0 p.1)) in
      let reach : Reaches (length f.places) parts = λ c last.
      let at = place-there 1 f.places (1 + c) (omega arith) (omega (arith, last)) in
      let used = not-false _ (none-in (λ id. not (has_use id us)) (place-in 1 f.places (1 + c) at.1) (form-needs f words us e).0) in
      ap is_some (sym (place-text f h c at.1 r)) ∙ sym (some-text at.0 us) ∙ used in
      (form-holds f h (length f.places) r (subst NoRepeat once.1 once.0) (omega arith) reach, used-texts r)

  -- words that can be meant are read
  pub meant-is-read : MayBeMeant f words → (us : List Use) × (form_uses f words ≡ Some us)
  meant-is-read m =
      let u = form-uses-of f h 1 (length f.places) parts m.form (omega arith) (omega arith) in
      let texts = used-texts u.1 in
      let plain = plain-uses (λ name. Unit {0}) u.1 (meant-plain f words (λ name. Unit {0}) (λ name known. tt) m) in
      let is_read : read (clap_form f) None 1 words ≡ Some u.0 = (words-close f 1 words).above u.0 (uses-are f u.1) plain in
      let places : lacks_one u.0 f.places ≡ false = none-lacks u.0 f.places (subst AreThere (sym (ap (λ (t : FormTexts). t.places) texts)) m.places) in
      let needed : lacks_one u.0 f.needed ≡ false = none-lacks u.0 f.needed (subst AreThere (sym (ap (λ (t : FormTexts). t.needed) texts)) m.needed) in
      let lacks : lacks_one u.0 (needs_of f) ≡ false = list_any-append _ f.places f.needed ∙ rw (places, needed) refl in
      (u.0, rw (is_read, once-joins u.0 u.2, lacks) refl)
