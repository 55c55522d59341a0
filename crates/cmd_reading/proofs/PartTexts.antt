-- The texts of uses, as the values and positionals of the parts; no place has another's name, nor an option's.
use Rattle.std.proofs.Common.{◌≡◌, ◌≢◌, ◌∙◌, ◌+◌, ◌-◌, ◌<◌, ℕ, zero, suc, false, true, refl, sym, ap, subst, List, [], ◌∷◌, ◌++◌, Some, arith, map, inl, inr}
use Rattle.std.specs.Prelude.{◌==◌}
use Rattle.std.specs.List.{list_any}
use Rattle.std.specs.Str.{bytes_eq}
use Rattle.std.proofs.lemmas.Slice.Eq.{bytes_eq-Decides}
use Rattle.std.proofs.lemmas.Bool.{cases_Bool, eqb-true}
use Rattle.std.proofs.lemmas.Bool.Decides.{nat_tests}
use Rattle.std.proofs.lemmas.Option.{same_Some}
use Rattle.clap.specs.Words.{Text}
use Rattle.cmd_reading.specs.Form.{WordForm, IsForm, dashed, is_distinct, options_of}
use Rattle.cmd_reading.proofs.OneByOne.{Use, has_use, text_of}
use Rattle.cmd_reading.proofs.FormUses.{place_from}
use Rattle.cmd_reading.proofs.Members.{In, bytes-apart, bytes-same, distinct-apart, distinct-parts, any-in, find-in, here, in-left, in-map, later, none-in}
use Rattle.cmd_reading.proofs.PartUses.{AreUses, named, none, placed, valued}
use Rattle.cmd_words.specs.Words.{CommandPart, positional_at, value_of}

pub nonzero : (c : ℕ) → (suc c == 0) ≡ false
nonzero c = grind (arith, nat_tests)

pub less : (c : ℕ) → suc c - 1 ≡ c
less c = omega arith

-- ---- names that are found

pub place-in : (j : ℕ) (ids : List Text) (i : ℕ) {id : Text} → place_from j ids i ≡ Some id → In id ids
place-in j [] i e = absurd (cc)
place-in j (x ∷ xs) i {id} e = elim (cases_Bool (j == i)) [
  | inl h ↦ let same : x ≡ id = same_Some x id (rw h at e) in subst (λ y. In y (x ∷ xs)) same here
  | inr h ↦ later (place-in (j + 1) xs i (rw h at e))
]

-- the option that was found is of this name
pub named-is : (names : List Text) (name : Text) {m : Text} → named names name ≡ Some m → name ≡ dashed m
named-is names name {m} e = sym ((bytes_eq-Decides (dashed m) name).0 (find-in _ names e).1)

pub known-name : (names : List Text) (name : Text) {m : Text} → named names name ≡ Some m → list_any (bytes_eq name) (map dashed names) ≡ true
known-name names name {m} e =
    let r = find-in _ names e in
    any-in (bytes_eq name) (in-map dashed r.0) (bytes-same (dashed m) name r.1)

places-apart : (j : ℕ) (ids rest : List Text) (a b : ℕ) {x y : Text} → place_from j ids a ≡ Some x → place_from j ids b ≡ Some y → a ≢ b
    → is_distinct (ids ++ rest) ≡ true → bytes_eq x y ≡ false
places-apart j [] rest a b e g ne d = absurd (cc)
places-apart j (id ∷ ids) rest a b {x} {y} e g ne d =
    let parts = distinct-parts id (ids ++ rest) d in
    elim (cases_Bool (j == a)) [
      | inl t ↦ elim (cases_Bool (j == b)) [
        | inl u ↦ absurd (ne (sym (eqb-true j a t) ∙ eqb-true j b u))
        | inr u ↦
            subst (λ z. bytes_eq z y ≡ false) (same_Some id x (rw t at e)) (none-in (bytes_eq id) (in-left (place-in (j + 1) ids b (rw u at g)) rest) parts.0)
      ]
      | inr t ↦ elim (cases_Bool (j == b)) [
        | inl u ↦
            let other = none-in (bytes_eq id) (in-left (place-in (j + 1) ids a (rw t at e)) rest) parts.0 in
            bytes-apart y x (subst (λ z. bytes_eq z x ≡ false) (same_Some id y (rw u at g)) other)
        | inr u ↦ places-apart (j + 1) ids rest a b (rw t at e) (rw u at g) ne parts.1
      ]
    ]

module _ (f : WordForm) (h : IsForm f) where
  pub other-place : {i j : ℕ} {x y : Text} → place_from 1 f.places i ≡ Some x → place_from 1 f.places j ≡ Some y → i ≢ j → bytes_eq x y ≡ false
  other-place {i} {j} e g ne = places-apart 1 f.places (options_of f) i j e g ne h.distinct

  pub no-place : {n id : Text} (i : ℕ) → In n (options_of f) → place_from 1 f.places i ≡ Some id → bytes_eq id n ≡ false
  no-place {n} {id} i known at = distinct-apart (place-in 1 f.places i at) known h.distinct

  -- ---- texts

  -- the text of an option is its value
  pub option-text : {n : Text} {k : ℕ} {parts : List CommandPart} {us : List Use} → In n (options_of f) → AreUses f k parts us
      → text_of n us ≡ value_of (dashed n) parts
  option-text known none = refl
  option-text known (placed {k} e r) = rw (no-place k known e) (option-text known r)
  option-text {n} known (valued {id} {name} e r) =
      rw (named-is (options_of f) name e) (elim (cases_Bool (bytes_eq id n)) [ inl t ↦ rw t refl | inr t ↦ rw t (option-text known r) ])

  -- the text of a place is the positional there
  pub place-text : {k : ℕ} (i : ℕ) {id : Text} {parts : List CommandPart} {us : List Use} → place_from 1 f.places (k + i) ≡ Some id → AreUses f k parts us
      → text_of id us ≡ positional_at i parts
  place-text i own none = refl
  place-text zero {id} own (placed {k} {id = other} e r) =
      let same : other ≡ id = same_Some other id (sym e ∙ ap (place_from 1 f.places) (at k) ∙ own) in
      rw ((bytes_eq-Decides other id).1 same) refl
    where
      at : (k : ℕ) → k ≡ k + 0
      at k = omega arith
  place-text (suc i) own (placed {k} e r) =
      rw (other-place e own (λ same. omega (arith, same)), nonzero i, less i) (place-text i (ap (place_from 1 f.places) (next k i) ∙ own) r)
    where
      next : (k i : ℕ) → suc k + i ≡ k + suc i
      next k i = omega arith
  place-text i {id} own (valued {k} {id = m} e r) =
      rw (bytes-apart id m (no-place (k + i) (find-in _ (options_of f) e).0 own)) (place-text i own r)

  -- a place's name is not used behind it
  pub not-again : {i : ℕ} {id : Text} {k : ℕ} {parts : List CommandPart} {us : List Use} → place_from 1 f.places i ≡ Some id → i < k → AreUses f k parts us
      → has_use id us ≡ false
  not-again own l none = refl
  not-again own l (placed e r) = rw (other-place e own (λ same. omega (arith, l, same)), not-again own (omega (arith, l)) r) refl
  not-again {i} {id} own l (valued {id = m} e r) =
      rw (bytes-apart id m (no-place i (find-in _ (options_of f) e).0 own), not-again own l r) refl
