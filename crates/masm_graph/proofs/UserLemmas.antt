-- The users of procedures, as uses come in.
use Rattle.std.proofs.Common.{◌≡◌, ◌≢◌, ℕ, false, ◌+◌, ◌<◌, ◌≤◌, List, [], ◌∷◌, ◌++◌, map, take, length, get_or, set, Vec, Global, ◌⊎◌, inl, inr, ◌↔◌, sym, ap, ap₂, subst, ◌∙◌, arith}
use Rattle.std.proofs.lemmas.Bool.{cases_lt}
use Rattle.std.proofs.lemmas.Bool.Decides.{eqb_tells}
use Rattle.std.proofs.lemmas.List.{map-set, map-append, map_more, length-map, take_more, get_or-map, get_or-set_same, get_or-set_other, get_or_past, get_or_default}
use Rattle.std.proofs.lemmas.List.Elements.{Contains-append_left, Contains-push, Contains-push_cases}
use Rattle.std.specs.List.{Any, Contains}
use Rattle.masm_graph.specs.declared.links.Link.{Link}
use Rattle.masm_graph.specs.declared.links.Target.{Target}
use Rattle.masm_graph.specs.declared.links.Target.TheVariants as targets
use Rattle.graphs.specs.Graph.{rows_of, Edge}
use Rattle.masm_graph.specs.Users.{HasOwn, UsesProcedure, AreUsers}

-- One more element of which one may have a property.
module _ {X : Type 0} (P : X → Type 0) (xs : List X) (i : ℕ) (x : X) (within : i < length xs) (is : x ≡ get_or xs i x) where
  longer : take (i + 1) xs ≡ take i xs ++ x ∷ []
  longer = take_more xs i x within ∙ ap (λ y. take i xs ++ y ∷ []) (sym is)

  pub Any-before : Any P (take i xs) → Any P (take (i + 1) xs)
  Any-before h =
      let c = subst (λ ys. Contains ys h.1) (sym longer) (Contains-append_left (take i xs) (x ∷ []) h.1 (h.0, h.2, h.3)) in
      (c.0, h.1, c.1, c.2, h.4)

  pub Any-here : P x → Any P (take (i + 1) xs)
  Any-here p = let c = subst (λ ys. Contains ys x) (sym longer) (Contains-push (take i xs) x) in (c.0, x, c.1, c.2, p)

  pub Any-more : Any P (take (i + 1) xs) → Any P (take i xs) ⊎ P x
  Any-more h =
      elim (Contains-push_cases (take i xs) x h.1 (subst (λ ys. Contains ys h.1) longer (h.0, h.2, h.3))) [
        | inl before ↦ inl (before.0, h.1, before.1, before.2, h.4)
        | inr same ↦ inr (subst P (sym same) h.4)
      ]

same_place : (p q : ℕ) → targets.Own p ≡ targets.Own q → p ≡ q
same_place p q e = cc

-- a use in a row
pub row_has : (row : List Link) (i : ℕ) (link : Link) (place : ℕ) → i < length row → link ≡ get_or row i link
    → link.target ≡ targets.Own place → HasOwn row place
row_has row i link place within is leads = (i, link, within, sym is, leads)

-- what a use is read as behind the end of a row
abbrev pub no_link : Link
no_link = record { at = record { line = 0; column = 0 }; target = targets.Own 0; refers = false }

-- rows in memory are as many as their lists
pub rows_within : {X : Type 0} (vecs : List (Vec X Global)) (i : ℕ) → i < length vecs → i < length (rows_of vecs)
rows_within {X} vecs i within = subst (λ n. i < n) (sym (length-map vecs (λ (x : Vec X Global). x.items))) within

pub rows_ended : {X : Type 0} (vecs : List (Vec X Global)) (i : ℕ) → length vecs ≤ i → length (rows_of vecs) ≤ i
rows_ended {X} vecs i ended = subst (λ n. n ≤ i) (sym (length-map vecs (λ (x : Vec X Global). x.items))) ended

pub row_itself : {X : Type 0} (rows : List (List X)) (i : ℕ) (row : List X) → i < length rows → row ≡ get_or rows i [] → row ≡ get_or rows i row
row_itself rows i row within is = is ∙ get_or_default rows i [] row within

-- what is read at a place of a list of vectors
pub row_read : {X : Type 0} (vecs : List (Vec X Global)) (i : ℕ) (vec : Vec X Global) → i < length vecs → vec ≡ get_or vecs i vec
    → vec.items ≡ get_or (rows_of vecs) i []
row_read {X} vecs i vec within is = ap (λ x. x.items) is ∙ sym (get_or-map (λ (x : Vec X Global). x.items) vecs i vec [] within)

-- what is made of each row, one row more
pub made_more : {X Y : Type 0} (f : List X → List Y) (rows : List (Vec X Global)) (i : ℕ) (row : Vec X Global) (lent : List X)
    (made new : List (Vec Y Global)) (one : Vec Y Global) → i < length rows → row ≡ get_or rows i row → lent ≡ row.items
    → rows_of made ≡ map f (take i (rows_of rows)) → one.items ≡ f lent → new ≡ made ++ one ∷ []
    → rows_of new ≡ map f (take (i + 1) (rows_of rows))
made_more {X} {Y} f rows i row lent made new one within is same before made_is pushed =
    ap rows_of pushed
    ∙ (map-append (λ (v : Vec Y Global). v.items) made (one ∷ [])
    ∙ (ap₂ (λ xs n. xs ++ n ∷ []) before (made_is ∙ ap f (same ∙ row_read rows i row within is))
    ∙ sym (map_more f (rows_of rows) i [] (rows_within rows i within))))

-- a user is added to the row of a place
pub user-added : (users : List (Vec ℕ Global)) (place user : ℕ) (w v : Vec ℕ Global) (t : Target) → place < length users → w ≡ get_or users place w
    → v.items ≡ w.items ++ user ∷ [] → t ≡ targets.Own place
    → (p other : ℕ) → Edge (rows_of (set users place v)) p other ↔ (Edge (rows_of users) p other ⊎ ((other ≡ user) × (t ≡ targets.Own p)))
user-added users place user w v t within is added leads = λ p other. elim (eqb_tells p place) [
  | inl same ↦ subst (λ q. Edge (rows_of (set users place v)) q other ↔ (Edge (rows_of users) q other ⊎ ((other ≡ user) × (t ≡ targets.Own q)))) (sym same.1) (here other)
  | inr apart ↦ (
    λ edge. inl (subst (λ r. Contains r other) (row_other p apart.1) edge),
    λ h. elim h [
      | inl before ↦ subst (λ r. Contains r other) (sym (row_other p apart.1)) before
      | inr at ↦ absurd (apart.1 (same_place p place (sym at.1 ∙ leads)))
    ],
  )
]
  where
    sets : rows_of (set users place v) ≡ set (rows_of users) place v.items
    sets = map-set (λ (x : Vec ℕ Global). x.items) users place v

    row_here : get_or (rows_of (set users place v)) place [] ≡ get_or (rows_of users) place [] ++ user ∷ []
    row_here =
        ap (λ r. get_or r place []) sets
        ∙ (get_or-set_same (rows_of users) place v.items [] (rows_within users place within) ∙ (added ∙ ap (λ r. r ++ user ∷ []) (row_read users place w within is)))

    row_other : (p : ℕ) → p ≢ place → get_or (rows_of (set users place v)) p [] ≡ get_or (rows_of users) p []
    row_other p apart = ap (λ r. get_or r p []) sets ∙ get_or-set_other (rows_of users) place p v.items [] apart

    here : (other : ℕ) → Edge (rows_of (set users place v)) place other ↔ (Edge (rows_of users) place other ⊎ ((other ≡ user) × (t ≡ targets.Own place)))
    here other = (
      λ edge. elim (Contains-push_cases (get_or (rows_of users) place []) user other (subst (λ r. Contains r other) row_here edge)) [
        | inl before ↦ inl before
        | inr at ↦ inr (sym at, leads)
      ],
      λ h. subst (λ r. Contains r other) (sym row_here) (elim h [
        | inl before ↦ Contains-append_left (get_or (rows_of users) place []) (user ∷ []) other before
        | inr at ↦ subst (Contains (get_or (rows_of users) place [] ++ user ∷ [])) (sym at.0) (Contains-push (get_or (rows_of users) place []) user)
      ]),
    )

-- the edges after one more use of a row
pub uses-more : (old mid new : List (List ℕ)) (user : ℕ) (row : List Link) (i : ℕ) (link : Link) → i < length row → link ≡ get_or row i link
    → ((p other : ℕ) → Edge mid p other ↔ (Edge old p other ⊎ ((other ≡ user) × HasOwn (take i row) p)))
    → ((p other : ℕ) → Edge new p other ↔ (Edge mid p other ⊎ ((other ≡ user) × (link.target ≡ targets.Own p))))
    → (p other : ℕ) → Edge new p other ↔ (Edge old p other ⊎ ((other ≡ user) × HasOwn (take (i + 1) row) p))
uses-more old mid new user row i link within is first second p other =
    let P : Link → Type 0 = λ l. l.target ≡ targets.Own p in (
      λ edge. elim ((second p other).0 edge) [
        | inl in_mid ↦
            elim ((first p other).0 in_mid)
            [ inl in_old ↦ inl in_old | inr added ↦ inr (added.0, Any-before P row i link within is added.1) ]
        | inr here ↦ inr (here.0, Any-here P row i link within is here.1)
      ],
      λ h. elim h [
        | inl in_old ↦ (second p other).1 (inl ((first p other).1 (inl in_old)))
        | inr added ↦ elim (Any-more P row i link within is added.1) [
          | inl before ↦ (second p other).1 (inl ((first p other).1 (inr (added.0, before))))
          | inr here ↦ (second p other).1 (inr (added.0, here))
        ]
      ],
    )

-- the edges after one more row
pub rows-more : (rows : List (List Link)) (old new : List (List ℕ)) (i : ℕ) (row : List Link) → row ≡ get_or rows i []
    → ((p other : ℕ) → Edge old p other ↔ ((other < i) × UsesProcedure rows other p))
    → ((p other : ℕ) → Edge new p other ↔ (Edge old p other ⊎ ((other ≡ i) × HasOwn row p)))
    → (p other : ℕ) → Edge new p other ↔ ((other < i + 1) × UsesProcedure rows other p)
rows-more rows old new i row is first second p other = (
  λ edge. elim ((second p other).0 edge) [
    | inl before ↦ let h = (first p other).0 before in ((let l = h.0 in omega arith), h.1)
    | inr here ↦ ((let e = here.0 in omega arith), subst (λ q. UsesProcedure rows q p) (sym here.0) (subst (λ r. HasOwn r p) is here.1))
  ],
  λ h. elim (eqb_tells other i) [
    | inl same ↦ (second p other).1 (inr (same.1, subst (λ r. HasOwn r p) (sym is) (subst (λ q. UsesProcedure rows q p) same.1 h.1)))
    | inr apart ↦ (second p other).1 (inl ((first p other).1 ((let l = h.0 in let a = apart.1 in omega arith), h.1)))
  ],
)

-- a row with uses stands in the list
pub user_within : (rows : List (List Link)) (user place : ℕ) → UsesProcedure rows user place → user < length rows
user_within rows user place h = elim (cases_lt user (length rows)) [
  | inl below ↦ below
  | inr past ↦ absurd (let none = ap length (get_or_past rows user [] past) in let within = h.2 in omega arith)
]

pub AreUsers-end : (rows : List (List Link)) (users : List (List ℕ)) (n : ℕ) → length users ≡ length rows → length rows ≤ n
    → ((p other : ℕ) → Edge users p other ↔ ((other < n) × UsesProcedure rows other p)) → AreUsers rows users
AreUsers-end rows users n count ended edges =
    record {
      count = count;
      edges = λ p other. (
        λ edge. ((edges p other).0 edge).1,
        λ goes. (edges p other).1 ((let l = user_within rows other p goes in omega arith), goes),
      );
    }

pub AreUsers-graph : (rows : List (List Link)) (users : List (List ℕ)) → AreUsers rows users → (a b : ℕ) → Edge users a b → b < length users
AreUsers-graph rows users are a b edge =
    let within = user_within rows b a ((are.edges a b).0 edge) in
    let count = are.count in
    omega arith
