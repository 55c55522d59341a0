-- What is found by places, and what is refused of the names of a source.
use Rattle.std.proofs.Common.{◌≡◌, ◌≢◌, ℕ, suc, zero, ◌+◌, ◌<◌, true, cond, List, [], ◌∷◌, ◌++◌, map, length, take, drop, get_or, slice_get, Option, Some, None, ◌⊎◌, inl, inr, refl, sym, ap, subst, ◌∙◌, bytes_eq, unwrap_or, add-one, arith}
use Rattle.std.proofs.lemmas.Bool.{cases_Bool}
use Rattle.std.proofs.lemmas.List.{map-append, length-map, get_or-map, get_or_default}
use Rattle.std.proofs.lemmas.List.Elements.{Contains-append_left, Contains-append_right, Contains-push}
use Rattle.std.proofs.lemmas.Option.{slice_get-map}
use Rattle.std.proofs.lemmas.Slice.Eq.{bytes_eq-Decides}
use Rattle.std.specs.List.{Any, Contains}
use Rattle.std.specs.Option.{option_map}
use Rattle.masm_tree.specs.declared.tree.Position.{Position}
use Rattle.masm_names.specs.declared.refusal.LinkCause.{LinkCause}
use Rattle.masm_names.specs.Among.{Among}
use Rattle.masm_names.specs.Uses.{place_in}

-- An element at a place, and the list split there.
pub slice_get-split : {X : Type 0} (before : List X) (x : X) (behind : List X) → slice_get (before ++ x ∷ behind) (length before) ≡ Some x
slice_get-split [] x behind = refl
slice_get-split (y ∷ before) x behind = slice_get-split before x behind

pub split_at : {X : Type 0} (xs : List X) (i : ℕ) (x : X) → slice_get xs i ≡ Some x
    → (xs ≡ take i xs ++ x ∷ drop (suc i) xs) × (length (take i xs) ≡ i)
split_at [] i x e = cc
split_at (y ∷ xs) zero x e = (ap (λ o. unwrap_or o y ∷ xs) e, refl)
split_at (y ∷ xs) (suc i) x e = (ap (λ ys. y ∷ ys) (split_at xs i x e).0, ap suc (split_at xs i x e).1)

-- The elements of a list that was mapped.
module _ {X Y : Type 0} (f : X → Y) (P : ℕ → Y → Position → LinkCause → Type 0) (xs : List X) (at : Position) (cause : LinkCause) where
  pub Among-unmapped : Among P (map f xs) at cause → Among (λ place x. P place (f x)) xs at cause
  Among-unmapped h = found h.0 h.1.0 (slice_get xs h.0) refl h.1.1 h.1.2
    where
      found : (k : ℕ) (y : Y) (o : Option X) → slice_get xs k ≡ o → slice_get (map f xs) k ≡ Some y → P k y at cause
          → Among (λ place x. P place (f x)) xs at cause
      found k y None e there has = absurd (let none : slice_get (map f xs) k ≡ None = slice_get-map f xs k ∙ ap (option_map f) e in cc)
      found k y (Some x) e there has =
          let is : y ≡ f x = ap (λ o. unwrap_or o y) (sym there ∙ (slice_get-map f xs k ∙ ap (option_map f) e)) in
          (k, (x, e, subst (λ z. P k z at cause) is has))

  pub Among-mapped : Among (λ place x. P place (f x)) xs at cause → Among P (map f xs) at cause
  Among-mapped h = (h.0, (f h.1.0, slice_get-map f xs h.0 ∙ ap (option_map f) h.1.1, h.1.2))

-- The elements of a list that has one more in front.
pub cons_cases : {X : Type 0} (x : X) (xs : List X) (y : X) → Contains (x ∷ xs) y → (x ≡ y) ⊎ Contains xs y
cons_cases x xs y (zero, within, is) = inl is
cons_cases x xs y (suc k, within, is) = inr (k, omega arith, is)

pub cons_here : {X : Type 0} (x : X) (xs : List X) → Contains (x ∷ xs) x
cons_here x xs = (0, omega arith, refl)

-- the place of a name that stands in a list, where it stands there before or not
stands : (before : List (List ℕ)) (n : List ℕ) (behind : List (List ℕ))
    → ((place_in (before ++ n ∷ behind) n ≢ Some (length before)) × Contains before n)
    ⊎ ((place_in (before ++ n ∷ behind) n ≡ Some (length before)) × ¬ (Contains before n))
stands [] n behind =
    inr (
      ap (λ b. cond b (Some 0) (option_map (λ i. i + 1) (place_in behind n))) ((bytes_eq-Decides n n).1 refl),
      λ h. absurd (omega (arith, h.1)),
    )
stands (m ∷ before) n behind = elim (cases_Bool (bytes_eq m n)) [
  | inl same ↦
      let is : m ≡ n = (bytes_eq-Decides m n).0 same in
      inl (
        (λ e. absurd (let zeroth : Some 0
            ≡ Some (suc (length before)) = sym
            (ap (λ b. cond b (Some 0) (option_map (λ i. i + 1) (place_in (before ++ n ∷ behind) n))) same) ∙ e in
            let less : 0 ≡ suc (length before) = ap (λ o. unwrap_or o 0) zeroth in omega arith)),
        subst (Contains (m ∷ before)) is (Contains-append_left (m ∷ []) before m (Contains-push [] m)),
      )
  | inr other ↦
      let step : place_in (m ∷ (before ++ n ∷ behind)) n ≡ option_map (λ i. i + 1) (place_in (before ++ n ∷ behind) n) =
      ap (λ b. cond b (Some 0) (option_map (λ i. i + 1) (place_in (before ++ n ∷ behind) n))) other in
      elim (stands before n behind) [
        | inl later ↦
            inl (
              (λ e. later.0 (less_one (place_in (before ++ n ∷ behind) n) (length before) (sym step ∙ e))),
              Contains-append_right (m ∷ []) before n later.1,
            )
        | inr first ↦ inr (
          step ∙ (ap (option_map (λ i. i + 1)) first.0 ∙ ap Some (add-one (length before))),
          λ h. elim (cons_cases m before n h) [
            | inl is ↦ absurd (let yes' : bytes_eq m n ≡ true = (bytes_eq-Decides m n).1 is in cc)
            | inr later ↦ first.1 later
          ],
        )
      ]
]
  where
    less_one : (o : Option ℕ) (k : ℕ) → option_map (λ i. i + 1) o ≡ Some (suc k) → o ≡ Some k
    less_one None k e = cc
    less_one (Some j) k e = ap Some (let f = ap (λ p. unwrap_or p 0) e in omega arith)

module _ {X : Type 0} (name : X → List ℕ) where
  named_before : (before : List X) (x : X) → Any (λ y. name y ≡ name x) before → Contains (map name before) (name x)
  named_before before x h =
      (h.0, (let within = h.2 in omega (arith, length-map before name)), get_or-map name before h.0 h.1 (name x) h.2 ∙ (ap name h.3 ∙ h.4))

  before_named : (before : List X) (x : X) → Contains (map name before) (name x) → Any (λ y. name y ≡ name x) before
  before_named before x h =
      let within : h.0 < length before = let l = h.1 in omega (arith, length-map before name) in
      (h.0, get_or before h.0 x, within, get_or_default before h.0 _ x within, sym (get_or-map name before h.0 x (name x) within) ∙ h.2)

  place_split : (before : List X) (x : X) (behind : List X)
      → place_in (map name (before ++ x ∷ behind)) (name x) ≡ place_in (map name before ++ name x ∷ map name behind) (name x)
  place_split before x behind = ap (λ names. place_in names (name x)) (map-append name before (x ∷ behind))

  -- a definition is not the first of its name exactly where its name stands before it
  pub repeats : (before : List X) (x : X) (behind : List X) → Any (λ y. name y ≡ name x) before
      → place_in (map name (before ++ x ∷ behind)) (name x) ≢ Some (length before)
  repeats before x behind h e =
      elim (stands (map name before) (name x) (map name behind)) [
        | inl later ↦ later.0 (sym (place_split before x behind) ∙ (e ∙ ap Some (sym (length-map before name))))
        | inr first ↦ first.1 (named_before before x h)
      ]

  pub repeated : (before : List X) (x : X) (behind : List X) → place_in (map name (before ++ x ∷ behind)) (name x) ≢ Some (length before)
      → Any (λ y. name y ≡ name x) before
  repeated before x behind h =
      elim (stands (map name before) (name x) (map name behind)) [
        | inl later ↦ before_named before x later.1
        | inr first ↦ absurd (h (place_split before x behind ∙ (first.0 ∙ ap Some (length-map before name))))
      ]

  pub split_repeats : (items before : List X) (x : X) (behind : List X) → items ≡ before ++ x ∷ behind → Any (λ y. name y ≡ name x) before
      → (slice_get items (length before) ≡ Some x) × (place_in (map name items) (name x) ≢ Some (length before))
  split_repeats items before x behind e h = (
    ap (λ xs. slice_get xs (length before)) e ∙ slice_get-split before x behind,
    λ q. repeats before x behind h (ap (λ xs. place_in (map name xs) (name x)) (sym e) ∙ q),
  )

  pub repeats_split : (items : List X) (k : ℕ) (x : X) → slice_get items k ≡ Some x → place_in (map name items) (name x) ≢ Some k
      → Any (λ y. name y ≡ name x) (take k items)
  repeats_split items k x e h =
      let split = split_at items k x e in
      repeated (take k items) x (drop (suc k) items) (λ q. h (ap (λ xs. place_in (map name xs) (name x)) split.0 ∙ (q ∙ ap Some split.1)))
