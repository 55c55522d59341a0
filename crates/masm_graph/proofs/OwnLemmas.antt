-- The places of the source's own procedures to which the uses of a row lead.
use Rattle.std.proofs.Common.{◌≡◌, ℕ, Bool, true, false, Option, Some, None, List, [], ◌∷◌, map, get_or, inl, inr, refl, sym, ap, ap₂, subst, ◌∙◌, unwrap_or, arith}
use Rattle.std.proofs.Math.ListN.{get_or-map}
use Rattle.std.proofs.lemmas.List.Elements.{Contains-append_right}
use Rattle.std.specs.List.{Contains, cons_option, filter_map}
use Rattle.graphs.specs.Graph.{Edge}
use Rattle.masm_graph.specs.declared.links.Link.{Link}
use Rattle.masm_graph.specs.declared.links.Target.{Target}
use Rattle.masm_graph.specs.declared.links.Target.TheVariants as targets
use Rattle.masm_graph.specs.Links.{own_place, own_places, place_if, places_with}
use Rattle.masm_graph.specs.Users.{HasOwn, UsesProcedure}
use Rattle.masm_names.proofs.DoubleLemmas.{cons_cases, cons_here}

-- What a list gives for some of its elements.
module _ {X : Type 0} (f : X → Option ℕ) where
  given_from : (xs : List X) (b : ℕ) → Contains (filter_map f xs) b → (x : X) × Contains xs x × (f x ≡ Some b)
  given_from [] b h = absurd (omega (arith, h.1))
  given_from (x ∷ xs) b h = by (f x) refl (λ k. let found = given_from xs b k in (found.0, Contains-append_right (x ∷ []) xs found.0 found.1, found.2)) h
    where
      by : (o : Option ℕ) → f x ≡ o → (Contains (filter_map f xs) b → (y : X) × Contains (x ∷ xs) y × (f y ≡ Some b))
          → Contains (cons_option o (filter_map f xs)) b → (y : X) × Contains (x ∷ xs) y × (f y ≡ Some b)
      by None is more k = more k
      by (Some place) is more k = elim (cons_cases place (filter_map f xs) b k) [ inl same ↦ (x, cons_here x xs, is ∙ ap Some same) | inr later ↦ more later ]

  given_in : (xs : List X) (x : X) (b : ℕ) → Contains xs x → f x ≡ Some b → Contains (filter_map f xs) b
  given_in [] x b has is = absurd (omega (arith, has.1))
  given_in (y ∷ xs) x b has is = elim (cons_cases y xs x has) [
    | inl same ↦ subst (λ o. Contains (cons_option o (filter_map f xs)) b) (sym (ap f same ∙ is)) (cons_here b (filter_map f xs))
    | inr later ↦ more (f y) (given_in xs x b later is)
  ]
    where
      more : (o : Option ℕ) → Contains (filter_map f xs) b → Contains (cons_option o (filter_map f xs)) b
      more None k = k
      more (Some place) k = Contains-append_right (place ∷ []) (filter_map f xs) b k

abbrev led : Link → Option ℕ
led link = own_place link.target

abbrev led_with : Bool → Link → Option ℕ
led_with wanted link = place_if wanted link.refers (led link)

place_target : (t : Target) (q : ℕ) → own_place t ≡ Some q → t ≡ targets.Own q
place_target (targets.Own place) q e = ap (λ o. targets.Own (unwrap_or o q)) e
place_target other q e = cc

-- the places of a row are those to which its uses lead
pub places_own : (row : List Link) (b : ℕ) → Contains (own_places row) b → HasOwn row b
places_own row b h = let found = given_from led row b h in (found.1.0, found.0, found.1.1, found.1.2, place_target found.0.target b found.2)

pub own_in_places : (row : List Link) (b : ℕ) → HasOwn row b → Contains (own_places row) b
own_in_places row b h = given_in led row h.1 b (h.0, h.2, h.3) (ap own_place h.4)

pub edge_goes : (rows : List (List Link)) (a b : ℕ) → Edge (map own_places rows) a b → UsesProcedure rows a b
edge_goes rows a b h = places_own (get_or rows a []) b (subst (λ r. Contains r b) (get_or-map own_places rows a []) h)

pub goes_edge : (rows : List (List Link)) (a b : ℕ) → UsesProcedure rows a b → Edge (map own_places rows) a b
goes_edge rows a b h = subst (λ r. Contains r b) (sym (get_or-map own_places rows a [])) (own_in_places (get_or rows a []) b h)

if_wanted : (w r : Bool) (o : Option ℕ) (b : ℕ) → place_if w r o ≡ Some b → (r ≡ w) × (o ≡ Some b)
if_wanted true true o b e = (refl, e)
if_wanted false false o b e = (refl, e)
if_wanted true false o b e = cc
if_wanted false true o b e = cc

wanted_if : (w : Bool) (o : Option ℕ) → place_if w w o ≡ o
wanted_if true o = refl
wanted_if false o = refl

-- a use of one kind in a row leads to a place
abbrev pub HasLink : Bool → List Link → ℕ → Type 0
HasLink wanted row b = (link : Link) × Contains row link × (link.refers ≡ wanted) × (link.target ≡ targets.Own b)

-- the places of the uses of one kind are those to which they lead
pub with_link : (wanted : Bool) (row : List Link) (b : ℕ) → Contains (places_with wanted row) b → HasLink wanted row b
with_link wanted row b h =
    let found = given_from (led_with wanted) row b h in
    let is = if_wanted wanted found.0.refers (led found.0) b found.2 in
    (found.0, found.1, is.0, place_target found.0.target b is.1)

-- a use leads to a place among those of its kind
pub own_in_with : (wanted : Bool) (row : List Link) (link : Link) (b : ℕ) → Contains row link → link.refers ≡ wanted → link.target ≡ targets.Own b
    → Contains (places_with wanted row) b
own_in_with wanted row link b has kind leads =
    given_in (led_with wanted) row link b has (ap₂ (λ r t. place_if wanted r (own_place t)) kind leads ∙ wanted_if wanted (Some b))

-- those of the procrefs of a row, or of its other uses, are among them
pub with_in_own : (wanted : Bool) (row : List Link) (b : ℕ) → Contains (places_with wanted row) b → Contains (own_places row) b
with_in_own wanted row b h = let found = with_link wanted row b h in given_in led row found.0 b found.1 (ap own_place found.3)

-- the edges of each kind are among all
pub edge_with : (wanted : Bool) (rows : List (List Link)) (a b : ℕ) → Edge (map (places_with wanted) rows) a b → Edge (map own_places rows) a b
edge_with wanted rows a b h =
    subst (λ r. Contains r b) (sym (get_or-map own_places rows a []))
    (with_in_own wanted (get_or rows a []) b (subst (λ r. Contains r b) (get_or-map (places_with wanted) rows a []) h))

pub goes_with : (wanted : Bool) (rows : List (List Link)) (a b : ℕ) (link : Link) → Contains (get_or rows a []) link → link.refers ≡ wanted
    → link.target ≡ targets.Own b → Edge (map (places_with wanted) rows) a b
goes_with wanted rows a b link has kind leads =
    subst (λ r. Contains r b) (sym (get_or-map (places_with wanted) rows a [])) (own_in_with wanted (get_or rows a []) link b has kind leads)
