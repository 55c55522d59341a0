-- What a filter keeps of a list of places, and places each once.
use Rattle.std.proofs.Common.{◌≡◌, ℕ, zero, suc, ◌+◌, ◌<◌, Bool, true, false, cond, not, List, [], ◌∷◌, ◌++◌, length, take, get_or, ◌⊎◌, inl, inr, refl, sym, ap, subst, ◌∙◌, append-nil, arith}
use Rattle.std.specs.Prelude.{filter, nat_eq}
use Rattle.std.proofs.lemmas.Bool.{false≢true}
use Rattle.std.proofs.lemmas.Bool.Decides.{eqb_tells}
use Rattle.std.proofs.lemmas.List.{take_more}
use Rattle.std.proofs.lemmas.List.Elements.{Contains-append_right, Contains-append_cases, filter-append}
use Rattle.std.specs.List.{Contains}
use Rattle.graphs.specs.Orders.{each_once}
use Rattle.graphs.proofs.WalkLemmas.{contains_one}

module _ (p : ℕ → Bool) where
  pub filter_keeps : (xs : List ℕ) (x : ℕ) → p x ≡ true → Contains xs x → Contains (filter p xs) x
  filter_keeps [] x passes h = h
  filter_keeps (y ∷ xs) x passes h = elim (Contains-append_cases (y ∷ []) xs x h) [
    | inl one ↦
        let same : y ≡ x = contains_one y x one in
        subst (λ b. Contains (cond b (y ∷ filter p xs) (filter p xs)) x) (sym (ap p same ∙ passes)) (0, omega arith, same)
    | inr later ↦ longer (p y) (filter_keeps xs x passes later)
  ]
    where
      longer : (b : Bool) → Contains (filter p xs) x → Contains (cond b (y ∷ filter p xs) (filter p xs)) x
      longer true k = Contains-append_right (y ∷ []) (filter p xs) x k
      longer false k = k

  pub filter_from : (xs : List ℕ) (x : ℕ) → Contains (filter p xs) x → Contains xs x
  filter_from [] x h = h
  filter_from (y ∷ xs) x h = by (p y) (λ k. filter_from xs x k) h
    where
      by : (b : Bool) → (Contains (filter p xs) x → Contains xs x) → Contains (cond b (y ∷ filter p xs) (filter p xs)) x → Contains (y ∷ xs) x
      by true more k = elim (Contains-append_cases (y ∷ []) (filter p xs) x k) [
        | inl one ↦ (0, omega arith, contains_one y x one)
        | inr later ↦ Contains-append_right (y ∷ []) xs x (more later)
      ]
      by false more k = Contains-append_right (y ∷ []) xs x (more k)

  -- what stands at a place of the kept stands in the list, and what is kept of those before it stands before it there too
  abbrev pub IsKept : List ℕ → List ℕ → ℕ → Type 0
  IsKept xs kept k =
      (m : ℕ) × (m < length xs) × (get_or xs m 0 ≡ get_or kept k 0)
      × ((b : ℕ) → p b ≡ true → Contains (take m xs) b → Contains (take k kept) b)

  pub kept_at : (xs : List ℕ) (k : ℕ) → k < length (filter p xs) → IsKept xs (filter p xs) k
  kept_at [] k below = absurd (omega (arith, below))
  kept_at (x ∷ xs) k below = by (p x) refl (λ j low. kept_at xs j low) k below
    where
      by : (b : Bool) → p x ≡ b → ((j : ℕ) → j < length (filter p xs) → IsKept xs (filter p xs) j) → (j : ℕ)
          → j < length (cond b (x ∷ filter p xs) (filter p xs)) → IsKept (x ∷ xs) (cond b (x ∷ filter p xs) (filter p xs)) j
      by true is more zero low = (0, omega arith, refl, λ b passes h. h)
      by true is more (suc j) low = let found = more j (omega arith) in (
        suc found.0,
        omega (arith, found.1),
        found.2,
        λ b passes h. elim (Contains-append_cases (x ∷ []) (take found.0 xs) b h) [
          | inl one ↦ (0, omega arith, contains_one x b one)
          | inr later ↦ Contains-append_right (x ∷ []) (take j (filter p xs)) b (found.3 b passes later)
        ],
      )
      by false is more j low = let found = more j low in (
        suc found.0,
        omega (arith, found.1),
        found.2,
        λ b passes h. elim (Contains-append_cases (x ∷ []) (take found.0 xs) b h) [
          | inl one ↦ absurd (false≢true (sym is ∙ (ap p (contains_one x b one) ∙ passes)))
          | inr later ↦ found.3 b passes later
        ],
      )

-- places each once

known : (xs : List ℕ) (x : ℕ) → Contains xs x ⊎ ¬ (Contains xs x)
known [] x = inr (λ h. omega (arith, h.1))
known (y ∷ xs) x = elim (eqb_tells y x) [
  | inl same ↦ inl (0, omega arith, same.1)
  | inr apart ↦ elim (known xs x) [
    | inl later ↦ inl (Contains-append_right (y ∷ []) xs x later)
    | inr none ↦ inr (λ h. elim (Contains-append_cases (y ∷ []) xs x h) [ inl one ↦ apart.1 (contains_one y x one) | inr later ↦ none later ])
  ]
]

abbrev others : ℕ → List ℕ → List ℕ
others y ys = filter (λ other. not (nat_eq y other)) ys

-- the places are the same
pub once_has : (xs : List ℕ) (x : ℕ) → Contains xs x → Contains (each_once xs) x
once_has [] x h = h
once_has (y ∷ xs) x h = elim (eqb_tells y x) [
  | inl same ↦ (0, omega arith, same.1)
  | inr apart ↦ elim (Contains-append_cases (y ∷ []) xs x h) [
    | inl one ↦ absurd (apart.1 (contains_one y x one))
    | inr later ↦
        Contains-append_right (y ∷ []) (others y (each_once xs)) x
        (filter_keeps (λ other. not (nat_eq y other)) (each_once xs) x (ap not apart.0) (once_has xs x later))
  ]
]

pub once_from : (xs : List ℕ) (x : ℕ) → Contains (each_once xs) x → Contains xs x
once_from [] x h = h
once_from (y ∷ xs) x h = elim (Contains-append_cases (y ∷ []) (others y (each_once xs)) x h) [
  | inl one ↦ (0, omega arith, contains_one y x one)
  | inr kept ↦
      Contains-append_right (y ∷ []) xs x
      (once_from xs x (filter_from (λ other. not (nat_eq y other)) (each_once xs) x kept))
]

-- one more place, which stands there already, or does not
abbrev IsPushed : List ℕ → ℕ → Type 0
IsPushed xs x =
    (Contains (each_once xs) x → each_once (xs ++ x ∷ []) ≡ each_once xs)
    × (¬ (Contains (each_once xs) x) → each_once (xs ++ x ∷ []) ≡ each_once xs ++ x ∷ [])

push_behind : (y : ℕ) (xs : List ℕ) (x : ℕ) → IsPushed xs x → IsPushed (y ∷ xs) x
push_behind y xs x more = (λ h. ap (λ ys. y ∷ ys) (seen h), λ h. ap (λ ys. y ∷ ys) (fresh h))
  where
    pushed : (b : Bool) → nat_eq y x ≡ b → ¬ (Contains (each_once xs) x)
        → others y (each_once (xs ++ x ∷ [])) ≡ others y (each_once xs) ++ cond (not b) (x ∷ []) []
    pushed b is none =
        ap (others y) (more.1 none)
        ∙ (filter-append (λ other. not (nat_eq y other)) (each_once xs) (x ∷ [])
        ∙ ap (λ c. others y (each_once xs) ++ cond (not c) (x ∷ []) []) is)

    seen : Contains (y ∷ others y (each_once xs)) x → others y (each_once (xs ++ x ∷ [])) ≡ others y (each_once xs)
    seen h = elim (known (each_once xs) x) [
      | inl later ↦ ap (others y) (more.0 later)
      | inr none ↦ elim (eqb_tells y x) [
        | inl same ↦ pushed true same.0 none ∙ append-nil (others y (each_once xs))
        | inr apart ↦ elim (Contains-append_cases (y ∷ []) (others y (each_once xs)) x h) [
          | inl one ↦ absurd (apart.1 (contains_one y x one))
          | inr kept ↦ absurd (none (filter_from (λ other. not (nat_eq y other)) (each_once xs) x kept))
        ]
      ]
    ]

    fresh : ¬ (Contains (y ∷ others y (each_once xs)) x) → others y (each_once (xs ++ x ∷ [])) ≡ others y (each_once xs) ++ x ∷ []
    fresh h = elim (eqb_tells y x) [
      | inl same ↦ absurd (h (0, omega arith, same.1))
      | inr apart ↦ pushed false apart.0 (λ has.
          h (Contains-append_right (y ∷ []) (others y (each_once xs)) x
          (filter_keeps (λ other. not (nat_eq y other)) (each_once xs) x (ap not apart.0) has)))
    ]

once_push : (xs : List ℕ) (x : ℕ) → IsPushed xs x
once_push [] x = (λ h. absurd (omega (arith, h.1)), λ h. refl)
once_push (y ∷ xs) x = push_behind y xs x (once_push xs x)

-- what was seen so far, behind one more place
pub once_more : (row : List ℕ) (i place : ℕ) (seen new : List ℕ) (marked : Bool) → i < length row → place ≡ get_or row i 0
    → seen ≡ each_once (take i row) → (marked ≡ true → Contains seen place) → (marked ≡ false → ¬ (Contains seen place))
    → new ≡ cond marked seen (seen ++ place ∷ []) → new ≡ each_once (take (i + 1) row)
once_more row i place seen new marked below is before has none now =
    now ∙ (by marked has none ∙ ap each_once (sym (take_more row i 0 below ∙ ap (λ q. take i row ++ q ∷ []) (sym is))))
  where
    by : (b : Bool) → (b ≡ true → Contains seen place) → (b ≡ false → ¬ (Contains seen place))
        → cond b seen (seen ++ place ∷ []) ≡ each_once (take i row ++ place ∷ [])
    by true there gone = before ∙ sym ((once_push (take i row) place).0 (subst (λ xs. Contains xs place) before (there refl)))
    by false there gone =
        ap (λ xs. xs ++ place ∷ []) before
        ∙ sym ((once_push (take i row) place).1 (λ h. gone refl (subst (λ xs. Contains xs place) (sym before) h)))
