-- Plans: rows that are marked, and steps one before the other.
use Rattle.masm_uses.proofs.Words.{◌≡◌, ℕ, ◌+◌, ◌<◌, ◌≤◌, Bool, true, false, not, List, [], ◌∷◌, length, take, get_or, set, ◌⊎◌, inl, inr, refl, sym, ap}
use Rattle.masm_uses.proofs.Words.{subst, ◌∙◌, arith, reverse, filter, false≢true, cases_lt, cases_Bool, eqb_tells, Contains-push_cases, filter_passes}
use Rattle.masm_uses.proofs.Words.{Contains, Edge, IsOrder, Builds, IsHeldFor, MarksRow, StepsTo, passed, built, IsNoneOrAll, EndsInGraph, Step}
use Rattle.masm_uses.proofs.Words.{contains_none}
use Rattle.masm_uses.specs.Plans.{HeldBehind}
use Rattle.std.proofs.lemmas.List.{take_more, take_all, get_or-set_same, get_or-set_other, get_or_past, length-set, reverse-append}
use Rattle.masm_names.proofs.TimesAmong.{times_kept, times_dropped}

-- rows

module _ (old mid : List Bool) (row : List ℕ) (i place : ℕ) (below : i < length row) (is : place ≡ get_or row i 0)
    (before : MarksRow old (take i row) mid []) where
  longer : (q : ℕ) → Contains (take (i + 1) row) q → Contains (take i row) q ⊎ (place ≡ q)
  longer q h =
      elim (Contains-push_cases (take i row) (get_or row i 0) q (subst (λ xs. Contains xs q) (take_more row i 0 below) h)) [
        | inl early ↦ inl early
        | inr here ↦ inr (is ∙ here)
      ]

  pub row_more : place < length mid → MarksRow old (take (i + 1) row) (set mid place true) []
  row_more within = record {
    marked = λ q h. elim (longer q h) [
      | inl early ↦ stays q (before.marked q early)
      | inr here ↦ subst (λ p. get_or (set mid place true) p false ≡ true) here (get_or-set_same mid place true false within)
    ];
    keeps = λ q h. stays q (before.keeps q h);
    fresh_were = λ q h. absurd (contains_none q h);
    count = length-set mid place true ∙ before.count;
  }
    where
      stays : (q : ℕ) → get_or mid q false ≡ true → get_or (set mid place true) q false ≡ true
      stays q h = elim (eqb_tells q place) [
        | inl same ↦ subst (λ p. get_or (set mid place true) p false ≡ true) (sym same.1) (get_or-set_same mid place true false within)
        | inr apart ↦ get_or-set_other mid place q true false apart.1 ∙ h
      ]

abbrev pub is_unmarked : List Bool → ℕ → Bool
is_unmarked marks place = not (get_or marks place false)

-- a row that is marked, with those of its places that had no mark
pub with_fresh : (old new : List Bool) (row fresh : List ℕ) → MarksRow old row new [] → fresh ≡ filter (is_unmarked old) row
    → MarksRow old row new fresh
with_fresh old new row fresh marks is = record {
  marked = marks.marked;
  keeps = marks.keeps;
  fresh_were = λ q h.
      let has = subst (λ xs. Contains xs q) is h in
      was_none q (ap (is_unmarked old) (sym has.2) ∙ filter_passes (is_unmarked old) row has.0 q has.1);
  count = marks.count;
}
  where
    none : (b : Bool) → not b ≡ true → b ≡ false
    none false h = refl
    none true h = sym h

    was_none : (q : ℕ) → is_unmarked old q ≡ true → get_or old q false ≡ false
    was_none q h = none (get_or old q false) h

pub none_or_all : (p : ℕ → Bool) (row : List ℕ) → IsNoneOrAll (filter p row) row
none_or_all p row q = elim (cases_Bool (p q)) [
  | inl keeps ↦ inr (times_kept p q keeps row)
  | inr drops ↦ inl (times_dropped p q drops row)
]

-- a step whose ended places are those of its row that had no mark
pub step_ends : (graph : List (List ℕ)) (step : Step) (place : ℕ) (row : List ℕ) (marks : List Bool) → get_or graph place [] ≡ row
    → step.place ≡ place → step.ended.items ≡ filter (is_unmarked marks) row → EndsInGraph graph step
step_ends graph step place row marks is_row is_place is_ended =
    subst (λ xs. IsNoneOrAll step.ended.items xs) (sym (ap (λ k. get_or graph k []) is_place ∙ is_row))
    (subst (λ xs. IsNoneOrAll xs row) (sym is_ended) (none_or_all (is_unmarked marks) row))

-- More may be held and less needed and wanted.
module _ (makes : Step → Bool) (ends : Step → List ℕ) where
  pub builds-more : (Needs Needs' : ℕ → ℕ → Type 0) (count count' : ℕ) (Wanted Wanted' Held Held' : ℕ → Type 0) (steps : List Step) → count ≡ count'
      → ((i j : ℕ) → Needs' i j → Needs i j) → ((q : ℕ) → Wanted' q → Wanted q) → ((q : ℕ) → Held q → Held' q)
      → Builds makes ends Needs count Wanted Held steps → Builds makes ends Needs' count' Wanted' Held' steps
  builds-more Needs Needs' count count' Wanted Wanted' Held Held' [] same fewer less more b = λ q h. more q (b q (less q h))
  builds-more Needs Needs' count count' Wanted Wanted' Held Held' (step ∷ steps) same fewer less more b = (
    omega arith,
    λ q h. more q (b.1 q (fewer step.place q h)),
    builds-more Needs Needs' count count' Wanted Wanted' (HeldBehind makes ends Held step) (HeldBehind makes ends Held' step) steps same fewer less
        (λ q h. (elim h.0 [ inl held ↦ inl (more q held) | inr here ↦ inr here ], h.1)) b.2,
  )

  pub more_built : {Needs Needs' : ℕ → ℕ → Type 0} {count count' : ℕ} {Wanted Wanted' Held Held' : ℕ → Type 0} (steps : List Step) → count ≡ count'
      → ((i j : ℕ) → Needs' i j → Needs i j) → ((q : ℕ) → Wanted' q → Wanted q) → ((q : ℕ) → Held q → Held' q)
      → Builds makes ends Needs count Wanted Held steps → Builds makes ends Needs' count' Wanted' Held' steps
  more_built {Needs} {Needs'} {count} {count'} {Wanted} {Wanted'} {Held} {Held'} steps same fewer less more b =
      builds-more Needs Needs' count count' Wanted Wanted' Held Held' steps same fewer less more b

-- The places that have a mark and stand among the first of an order.
abbrev pub Seen : List Bool → List ℕ → ℕ → ℕ → Type 0
Seen marks order k place = (get_or marks place false ≡ true) × Contains (take k order) place

-- marks stay
pub steps_keep : (makes : Step → Bool) (ends : Step → List ℕ) (place : ℕ) (row : List ℕ) (marks new : List Bool) (steps more : List Step)
    → StepsTo makes ends place row marks steps new more → (q : ℕ) → get_or marks q false ≡ true → get_or new q false ≡ true
steps_keep makes ends place row marks new steps more (passed unmarked) q h = h
steps_keep makes ends place row marks new steps more (built step after is_made at_place rows) q h = rows.keeps q h

marked_low : (marks : List Bool) (q : ℕ) → get_or marks q false ≡ true → q < length marks
marked_low marks q h = elim (cases_lt q (length marks)) [
  | inl low ↦ low
  | inr past ↦ absurd (false≢true (sym (get_or_past marks q false past) ∙ h))
]

-- Steps from the last place of an order to its first, where these are needed in the end.
module _ (makes : Step → Bool) (ends : Step → List ℕ) (graph : List (List ℕ)) (order : List ℕ) (is : IsOrder graph order) (needed : List Bool) where
  abbrev pub Served : List Bool → ℕ → List Step → Type 0
  Served marks k steps =
      Builds makes ends (IsHeldFor graph needed order) (length graph) (λ q. get_or needed q false ≡ true) (Seen marks order k) (reverse steps)

  -- the same steps, where more is held
  served-more : {Held Held' : ℕ → Type 0} (steps : List Step) → ((q : ℕ) → Held q → Held' q)
      → Builds makes ends (IsHeldFor graph needed order) (length graph) (λ q. get_or needed q false ≡ true) Held steps
      → Builds makes ends (IsHeldFor graph needed order) (length graph) (λ q. get_or needed q false ≡ true) Held' steps
  served-more steps more b = more_built makes ends steps refl (λ i j h. h) (λ q h. h) more b

  -- what stands among the first of the order, or next
  next_or : (k place q : ℕ) → k < length order → place ≡ get_or order k 0 → Contains (take (k + 1) order) q → Contains (take k order) q ⊎ (place ≡ q)
  next_or k place q below here h =
      elim (Contains-push_cases (take k order) (get_or order k 0) q (subst (λ xs. Contains xs q) (take_more order k 0 below) h)) [
        | inl early ↦ inl early
        | inr at ↦ inr (here ∙ at)
      ]

  pub served-step : (k place : ℕ) (row : List ℕ) (marks new : List Bool) (steps more : List Step) → k < length order → place ≡ get_or order k 0
      → row ≡ get_or graph place [] → ((q : ℕ) → get_or needed q false ≡ true → get_or marks q false ≡ true)
      → Served marks (k + 1) steps → StepsTo makes ends place row marks steps new more → Served new k more
  served-step k place row marks new steps more below here row_is kept before (passed unmarked) =
      served-more (reverse steps)
      (λ q h. (
        h.0,
        elim (next_or k place q below here h.1) [
          | inl early ↦ early
          | inr at ↦ absurd (false≢true (sym unmarked ∙ (ap (λ p. get_or marks p false) at ∙ h.0)))
        ],
      ))
      before
  served-step k place row marks new steps more below here row_is kept before (built step after is_made at_place rows) =
      subst (Builds makes ends (IsHeldFor graph needed order) (length graph) (λ q. get_or needed q false ≡ true) (Seen after order k))
      (sym (reverse-append steps (step ∷ []))) (
        subst (λ p. p < length graph) (sym (at_place ∙ here)) (is.within k below),
        needs,
        served-more (reverse steps) (λ q h. (held q h, λ fresh. false≢true (sym (rows.fresh_were q fresh) ∙ h.0))) before,
      )
    where
      needs : (q : ℕ) → IsHeldFor graph needed order step.place q → Seen after order k q
      needs q (inl edge) =
          let edge' = subst (λ p. Edge graph p q) at_place edge in
          (rows.marked q (subst (λ xs. Contains xs q) (sym row_is) edge'), is.behind k q below (subst (λ p. Edge graph p q) here edge'))
      needs q (inr further) = (rows.keeps q (kept q further.0), further.1 k below (sym (at_place ∙ here)))

      held : (q : ℕ) → Seen marks order (k + 1) q → Seen after order k q ⊎ ((q ≡ step.place) × (makes step ≡ true))
      held q h = elim (next_or k place q below here h.1) [
        | inl early ↦ inl (rows.keeps q h.0, early)
        | inr at ↦ inr (sym (at_place ∙ at), is_made ∙ (ap (λ p. get_or marks p false) at ∙ h.0))
      ]

  pub served-none : (n : ℕ) → length needed ≡ length graph → length order ≤ n → Served needed n []
  served-none n count all = λ q h.
      (h, subst (λ xs. Contains xs q) (sym (take_all n order all)) (is.all q (omega (arith, marked_low needed q h))))

  pub served-all : (marks : List Bool) (k : ℕ) (steps : List Step) → k ≡ 0 → Served marks k steps
      → Builds makes ends (IsHeldFor graph needed order) (length graph) (λ q. get_or needed q false ≡ true) (λ q. ⊥) (reverse steps)
  served-all marks k steps none served =
      served-more (reverse steps) (λ q h. contains_none q (subst (λ n. Contains (take n order) q) none h.1)) served
