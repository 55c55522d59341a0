-- What stands in a list, and what a search in it finds.
use Rattle.std.proofs.Common.{◌≡◌, ℕ, Bool, true, false, refl, sym, List, [], ◌∷◌, ◌++◌, map, Some, inl, inr, subst}
use Rattle.std.specs.Prelude.{find, ◌&&◌, not}
use Rattle.std.specs.List.{list_any}
use Rattle.std.specs.Str.{bytes_eq}
use Rattle.std.proofs.lemmas.Bool.{and_parts, cases_Bool, not-true, or_left, or_parts, or_right}
use Rattle.std.proofs.lemmas.Option.{none-some, same_Some}
use Rattle.std.proofs.lemmas.Slice.Eq.{bytes_eq-Decides}
use Rattle.cmd_reading.specs.Form.{is_distinct}

pub same-text : (x : List ℕ) → bytes_eq x x ≡ true
same-text x = (bytes_eq-Decides x x).1 refl

pub bytes-same : (x y : List ℕ) → bytes_eq x y ≡ true → bytes_eq y x ≡ true
bytes-same x y e = (bytes_eq-Decides y x).1 (sym ((bytes_eq-Decides x y).0 e))

pub bytes-apart : (x y : List ℕ) → bytes_eq x y ≡ false → bytes_eq y x ≡ false
bytes-apart x y e = elim (cases_Bool (bytes_eq y x)) [ inl h ↦ let same = bytes-same y x h in absurd (cc) | inr h ↦ h ]

pub three_parts : (a b c : Bool) → (a && b && c) ≡ true → (a ≡ true) × (b ≡ true) × (c ≡ true)
three_parts true true c e = (refl, refl, e)
three_parts true false c e = absurd (cc)
three_parts false b c e = absurd (cc)

module _ {A : Type 0} where
  pub data In (a : A) : List A → Type 0 where
    here : {c : List A} → In a (a ∷ c)
    later : {b : A} {c : List A} → In a c → In a (b ∷ c)

  pub in-left : {a : A} {c : List A} → In a c → (d : List A) → In a (c ++ d)
  in-left here d = here
  in-left (later i) d = later (in-left i d)

  pub in-right : {a : A} (c : List A) {d : List A} → In a d → In a (c ++ d)
  in-right [] i = i
  in-right (x ∷ c) i = later (in-right c i)

  module _ (p : A → Bool) where
    pub find-in : (c : List A) {a : A} → find p c ≡ Some a → In a c × (p a ≡ true)
    find-in [] {a} e = absurd (none-some a e)
    find-in (b ∷ c) {a} e = elim (cases_Bool (p b)) [
      | inl t ↦ let same : b ≡ a = same_Some b a (rw t at e) in (subst (λ x. In x (b ∷ c)) same here, subst (λ x. p x ≡ true) same t)
      | inr t ↦ let r = find-in c (rw t at e) in (later r.0, r.1)
    ]

    pub any-found : (c : List A) → list_any p c ≡ true → (a : A) × (find p c ≡ Some a)
    any-found [] e = absurd (cc)
    any-found (b ∷ c) e = elim (cases_Bool (p b)) [ inl t ↦ (b, rw t refl) | inr t ↦ rw t (any-found c (rw t at e)) ]

    pub any-in : {a : A} {c : List A} → In a c → p a ≡ true → list_any p c ≡ true
    any-in {a} (here {c}) e = or_left (p a) (list_any p c) e
    any-in (later {b} {c} i) e = or_right (p b) (list_any p c) (any-in i e)

    pub none-in : {a : A} {c : List A} → In a c → list_any p c ≡ false → p a ≡ false
    none-in {a} (here {c}) e = (or_parts (p a) (list_any p c) e).0
    none-in (later {b} {c} i) e = none-in i (or_parts (p b) (list_any p c) e).1

pub in-map : {A B : Type 0} (g : A → B) {a : A} {c : List A} → In a c → In (g a) (map g c)
in-map g here = here
in-map g (later i) = later (in-map g i)

-- the first name is not among the others, which are distinct too
pub distinct-parts : (x : List ℕ) (xs : List (List ℕ)) → is_distinct (x ∷ xs) ≡ true → (list_any (bytes_eq x) xs ≡ false) × (is_distinct xs ≡ true)
distinct-parts x xs e = let p = and_parts (not (list_any (bytes_eq x) xs)) (is_distinct xs) e in (not-true _ p.0, p.1)

pub distinct-apart : {x y : List ℕ} {xs ys : List (List ℕ)} → In x xs → In y ys → is_distinct (xs ++ ys) ≡ true → bytes_eq x y ≡ false
distinct-apart {x} {y} {xs = _} {ys} (here {c}) j e = none-in (bytes_eq x) (in-right c j) (distinct-parts x (c ++ ys) e).0
distinct-apart {x} {y} {xs = _} {ys} (later {b} {c} i) j e = distinct-apart i j (distinct-parts b (c ++ ys) e).1
