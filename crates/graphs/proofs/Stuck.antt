-- In a graph with no way back, places that are left out have among them one all of whose edges lead to the others.
use Rattle.std.proofs.Common.{◌≡◌, ℕ, zero, suc, ◌<◌, ◌≤◌, true, false, List, [], ◌∷◌, length, inl, inr, refl, sym, subst, arith, eqb, ap}
use Rattle.std.specs.List.{IsDistinct, AllByRecursion, list_any}
use Rattle.std.proofs.lemmas.Bool.Decides.{eqb_tells}
use Rattle.std.proofs.lemmas.Map.Keys.{IsDistinct-cons}
use Rattle.std.proofs.lemmas.Map.Steps.{length-le_from_distinct_below}
use Rattle.graphs.specs.Graph.{Edge, IsGraph, Leads, itself, through}
use Rattle.graphs.specs.Orders.{IsAcyclic}

none-distinct : IsDistinct eqb []
unfolding IsDistinct
none-distinct = tt

pub leads-behind : {graph : List (List ℕ)} {a b c : ℕ} → Leads graph a b → Edge graph b c → Leads graph a c
leads-behind itself e = through e itself
leads-behind (through d l) e = through d (leads-behind l e)

module _ (graph : List (List ℕ)) (acyclic : IsAcyclic graph) (is_graph : IsGraph graph) (Left : ℕ → Type 0) where
  -- a way over places that are left out, its end first
  data Way : ℕ → List ℕ → Type 0 where
    start : (a : ℕ) → a < length graph → Left a → Way a []
    on : {a : ℕ} {later : List ℕ} (b : ℕ) → Way a later → Edge graph a b → Left b → Way b (a ∷ later)

  end-below : {a : ℕ} {later : List ℕ} → Way a later → a < length graph
  end-below (start a low left) = low
  end-below (on {a} b w e left) = is_graph a b e

  end-left : {a : ℕ} {later : List ℕ} → Way a later → Left a
  end-left (start a low left) = left
  end-left (on b w e left) = left

  further : (a b : ℕ) → Edge graph a b → (cs : List ℕ) → AllByRecursion (λ c. Leads graph c a) cs → AllByRecursion (λ c. Leads graph c b) cs
  further a b e [] ls = tt
  further a b e (c ∷ cs) ls = (leads-behind ls.0 e, further a b e cs ls.1)

  -- each of its places leads to its end
  all-lead : {a : ℕ} {later : List ℕ} → Way a later → AllByRecursion (λ c. Leads graph c a) (a ∷ later)
  all-lead (start a low left) = (itself, tt)
  all-lead (on {a} {later} b w e left) = (itself, further a b e (a ∷ later) (all-lead w))

  -- the place that comes next is none of them
  apart : (a b : ℕ) → Edge graph a b → (cs : List ℕ) → AllByRecursion (λ c. Leads graph c a) cs → AllByRecursion (λ c. eqb b c ≡ false) cs
  apart a b e [] ls = tt
  apart a b e (c ∷ cs) ls = (
    elim (eqb_tells b c) [
      | inl same ↦ absurd (acyclic a b e (subst (λ x. Leads graph x a) (sym same.1) ls.0))
      | inr other ↦ other.0
    ],
    apart a b e cs ls.1,
  )

  distinct : {a : ℕ} {later : List ℕ} → Way a later → IsDistinct eqb (a ∷ later)
  distinct (start a low left) = IsDistinct-cons eqb a [] tt none-distinct
  distinct (on {a} {later} b w e left) = IsDistinct-cons eqb b (a ∷ later) (apart a b e (a ∷ later) (all-lead w)) (distinct w)

  below : {a : ℕ} {later : List ℕ} → Way a later → (q : ℕ) → list_any (eqb q) (a ∷ later) ≡ true → q < length graph
  below (start a low left) q is = elim (eqb_tells q a) [
    | inl same ↦ rw same.1 low
    | inr other ↦ let no = rw other.0 at is in cc
  ]
  below (on {a} {later} b w e left) q is = elim (eqb_tells q b) [
    | inl same ↦ rw same.1 (is_graph a b e)
    | inr other ↦ below w q (rw other.0 at is)
  ]

  -- where each place that is left out has an edge to another one, a way goes on and on
  long : (Stuck : (a : ℕ) → a < length graph → Left a → (b : ℕ) × Edge graph a b × Left b) (a : ℕ) → a < length graph → Left a
      → (m : ℕ) → (b : ℕ) × (bs : List ℕ) × Way b bs × (length bs ≡ m)
  long stuck a low left zero = (a, [], start a low left, refl)
  long stuck a low left (suc m) =
      let w = long stuck a low left m in
      let next = stuck w.0 (end-below w.2) (end-left w.2) in
      (next.0, w.0 ∷ w.1, on next.0 w.2 next.1 next.2, ap suc w.3)

  pub not-stuck : ((a : ℕ) → a < length graph → Left a → (b : ℕ) × Edge graph a b × Left b) → (a : ℕ) → a < length graph → ¬ (Left a)
  not-stuck stuck a low left =
      let w = long stuck a low left (length graph) in
      let few : length (w.0 ∷ w.1) ≤ length graph = length-le_from_distinct_below _ _ (distinct w.2) (below w.2) in
      absurd (omega (arith, few, w.3))
