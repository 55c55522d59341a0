-- Parts that have the form are uses that join, and the other way round.
use Rattle.std.proofs.Common.{◌≡◌, ◌∙◌, ◌+◌, ◌≤◌, ◌<◌, ℕ, zero, suc, true, false, refl, sym, ap, List, [], ◌∷◌, ◌++◌, length, map, Some, None, arith, append-nil, inl, inr}
use Rattle.std.specs.Prelude.{not, ◌||◌, ◌==◌, is_some}
use Rattle.std.specs.List.{list_any}
use Rattle.std.specs.Str.{bytes_eq}
use Rattle.std.proofs.lemmas.Bool.{cases_Bool, not-true, or_parts}
use Rattle.std.proofs.lemmas.List.{append_assoc}
use Rattle.std.proofs.lemmas.List.Folds.{list_any-append}
use Rattle.std.proofs.lemmas.Bool.Decides.{nat_tests}
use Rattle.std.proofs.lemmas.Option.{none-some}
use Rattle.clap.specs.Words.{Text}
use Rattle.cmd_reading.specs.Form.{WordForm, IsForm, dashed, options_of}
use Rattle.cmd_reading.proofs.OneByOne.{Use, has_use, joined}
use Rattle.cmd_reading.proofs.FormUses.{place_from}
use Rattle.cmd_reading.proofs.Members.{bytes-apart, find-in, three_parts}
use Rattle.cmd_reading.proofs.PartUses.{AreUses, named, none, placed, valued}
use Rattle.cmd_words.specs.Words.{CommandPart, positional, given, lacking, has_form, positional_at, value_of}
use Rattle.cmd_reading.proofs.SaysLemmas.{some-text}
use Rattle.cmd_reading.proofs.PartTexts.{known-name, less, named-is, nonzero, not-again, option-text}

-- ---- each name once

abbrev pub NoRepeat : List Use → Type 0
NoRepeat [] = Unit {0}
NoRepeat (u ∷ us) = (has_use u.0 us ≡ false) × NoRepeat us

abbrev Fresh : List Use → List Use → Type 0
Fresh seen [] = Unit {0}
Fresh seen (u ∷ us) = (has_use u.0 seen ≡ false) × Fresh seen us

seen-last : (id : Text) (seen : List Use) (u : Use) → has_use id (seen ++ u ∷ []) ≡ (has_use id seen || (bytes_eq u.0 id || false))
seen-last id seen u = list_any-append (λ (x : Use). bytes_eq x.0 id) seen (u ∷ [])

fresh-parts : (seen : List Use) (u : Use) (us : List Use) → Fresh (seen ++ u ∷ []) us → Fresh seen us × (has_use u.0 us ≡ false)
fresh-parts seen u [] h = (tt, refl)
fresh-parts seen u (w ∷ us) h =
    let later = fresh-parts seen u us h.1 in
    let here = or_parts (has_use w.0 seen) _ (sym (seen-last w.0 seen u) ∙ h.0) in
    ((here.0, later.0), rw (bytes-apart u.0 w.0 (or_parts _ false here.1).0) later.1)

fresh-more : (seen : List Use) (u : Use) (us : List Use) → has_use u.0 us ≡ false → Fresh seen us → Fresh (seen ++ u ∷ []) us
fresh-more seen u [] e h = tt
fresh-more seen u (w ∷ us) e h =
    let p = or_parts (bytes_eq w.0 u.0) (has_use u.0 us) e in
    (seen-last w.0 seen u ∙ rw (h.0, bytes-apart w.0 u.0 p.0) refl, fresh-more seen u us p.1 h.1)

joined-is : (seen us vs : List Use) → joined seen us ≡ Some vs → NoRepeat us × Fresh seen us × (seen ++ us ≡ vs)
unfolding joined
joined-is seen [] vs e = let same : seen ≡ vs = cc in (tt, tt, append-nil seen ∙ same)
joined-is seen (u ∷ us) vs e = elim (cases_Bool (has_use u.0 seen)) [
  | inl h ↦ absurd (none-some vs (rw h at e))
  | inr h ↦
      let r = joined-is (seen ++ u ∷ []) us vs (rw h at e) in
      let parts = fresh-parts seen u us r.1 in
      ((parts.1, r.0), (h, parts.0), sym (append_assoc seen (u ∷ []) us) ∙ r.2)
]

joins : (seen us : List Use) → NoRepeat us → Fresh seen us → joined seen us ≡ Some (seen ++ us)
unfolding joined
joins seen [] n h = ap Some (sym (append-nil seen))
joins seen (u ∷ us) n h = rw h.0 (joins (seen ++ u ∷ []) us n.1 (fresh-more seen u us n.0 h.1) ∙ ap Some (append_assoc seen (u ∷ []) us))

fresh-all : (us : List Use) → Fresh [] us
fresh-all [] = tt
fresh-all (u ∷ us) = (refl, fresh-all us)

pub join-once : (us vs : List Use) → joined [] us ≡ Some vs → NoRepeat us × (us ≡ vs)
join-once us vs e = let r = joined-is [] us vs e in (r.0, r.2)

pub once-joins : (us : List Use) → NoRepeat us → joined [] us ≡ Some us
once-joins us once = joins [] us once (fresh-all us)

-- ---- the form

place-past : (j : ℕ) (ids : List Text) (i : ℕ) → j + length ids ≤ i → place_from j ids i ≡ None
place-past j [] i l = refl
place-past j (id ∷ ids) i l =
    let other : (j == i) ≡ false = grind (arith, nat_tests) in
    rw other (place-past (j + 1) ids i (omega (arith, l)))

pub place-there : (j : ℕ) (ids : List Text) (i : ℕ) → j ≤ i → i < j + length ids → (id : Text) × (place_from j ids i ≡ Some id)
place-there j [] i l h = absurd (omega (arith, l, h))
place-there j (id ∷ ids) i l h = elim (cases_Bool (j == i)) [
  | inl e ↦ (id, rw e refl)
  | inr e ↦ let more : j + 1 ≤ i = grind (arith, nat_tests) in rw e (place-there (j + 1) ids i more (omega (arith, h)))
]

pub name-known : (names : List Text) (name : Text) → list_any (bytes_eq name) (map dashed names) ≡ true → (m : Text) × (named names name ≡ Some m)
name-known [] name e = absurd (cc)
name-known (n ∷ names) name e = elim (cases_Bool (bytes_eq (dashed n) name)) [
  | inl h ↦ (n, rw h refl)
  | inr h ↦ rw h (name-known names name (rw (bytes-apart (dashed n) name h) at e))
]

-- as many positionals, and no fewer
abbrev pub Reaches : ℕ → List CommandPart → Type 0
Reaches count parts = (c : ℕ) → suc c ≡ count → is_some (positional_at c parts) ≡ true

reaches-rest : (c : ℕ) (w : Text) (parts : List CommandPart) → Reaches (suc c) (positional w ∷ parts) → Reaches c parts
reaches-rest c w parts h d e = rw (nonzero d, less d) at (h (suc d) (ap suc e))

module _ (f : WordForm) (h : IsForm f) where
  abbrev Has : ℕ → List CommandPart → Type 0
  Has count parts = has_form count (map dashed (options_of f)) parts ≡ true

  -- an option is not used again where its value is not given again
  value-used : {k : ℕ} (name : Text) {m : Text} {parts : List CommandPart} {us : List Use} → named (options_of f) name ≡ Some m → AreUses f k parts us
      → is_some (value_of name parts) ≡ has_use m us
  value-used name {m} {parts} {us} e r =
      rw (named-is (options_of f) name e) (ap is_some (sym (option-text f h (find-in _ (options_of f) e).0 r)) ∙ sym (some-text m us))

  -- uses whose names come once have the form, where the last place is taken
  pub form-holds : {k : ℕ} (count : ℕ) {parts : List CommandPart} {us : List Use} → AreUses f k parts us → NoRepeat us → k + count ≡ suc (length f.places)
      → Reaches count parts → Has count parts
  form-holds zero none once at reach = refl
  form-holds (suc c) none once at reach = let no = reach c refl in absurd (cc)
  form-holds zero (placed {k} {id} e r) once at reach = absurd (none-some id (sym (place-past 1 f.places k (omega (arith, at))) ∙ e))
  form-holds (suc c) (placed {word} {parts} e r) once at reach =
      rw (nonzero c, less c) (form-holds c r once.1 (omega (arith, at)) (reaches-rest c word parts reach))
  form-holds count (valued {name} e r) once at reach =
      rw (known-name (options_of f) name e, value-used name e r, once.0) (form-holds count r once.1 at reach)

  -- parts of the form are uses, each name once
  pub form-uses-of : (k count : ℕ) (parts : List CommandPart) → Has count parts → 1 ≤ k → k + count ≡ suc (length f.places)
      → (us : List Use) × AreUses f k parts us × NoRepeat us
  form-uses-of k zero [] e l at = ([], none, tt)
  form-uses-of k (suc c) [] e l at = let no = nonzero c in absurd (cc)
  form-uses-of k zero (positional w ∷ parts) e l at = absurd (cc)
  form-uses-of k (suc c) (positional w ∷ parts) e l at =
      let p = place-there 1 f.places k l (omega (arith, at)) in
      let rest = form-uses-of (suc k) c parts (rw (nonzero c, less c) at e) (omega (arith, l)) (omega (arith, at)) in
      ((p.0, w) ∷ rest.0, placed p.1 rest.1, (not-again f h p.1 (omega arith) rest.1, rest.2))
  form-uses-of k count (given name v ∷ parts) e l at =
      let t = three_parts (list_any (bytes_eq name) (map dashed (options_of f))) (not (is_some (value_of name parts))) _ e in
      let m = name-known (options_of f) name t.0 in
      let rest = form-uses-of k count parts t.2 l at in
      ((m.0, v) ∷ rest.0, valued m.1 rest.1, (sym (value-used name m.1 rest.1) ∙ not-true _ t.1, rest.2))
  form-uses-of k count (lacking ∷ parts) e l at = absurd (cc)
