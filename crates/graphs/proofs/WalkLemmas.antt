-- Walks over a graph: what a visit adds, and what is seen at the end.
use Rattle.std.proofs.Common.{◌≡◌, ℕ, ◌+◌, ◌<◌, ◌≤◌, Bool, true, false, cond, List, [], ◌∷◌, ◌++◌, length, take, get_or, set, count_by, inl, inr, ◌↔◌, refl, sym, ap, subst, ◌∙◌, append_assoc, arith}
use Rattle.std.proofs.lemmas.Bool.Decides.{eqb_tells}
use Rattle.std.proofs.lemmas.List.{take_more, get_or-set_same, get_or-set_other, get_or_append_left, length_push, get_or_default}
use Rattle.std.proofs.lemmas.List.Elements.{Contains-append_left, Contains-append_right, Contains-append_cases, Contains-push, Contains-push_cases, Contains-get_or}
use Rattle.std.proofs.lemmas.List.Sums.{sum_by-set}
use Rattle.std.specs.List.{Contains}
use Rattle.graphs.specs.Graph.{Edge, Leads, LeadsFrom, itself, through}
use Rattle.graphs.specs.Walks.{AreMarks, AddsPlaces, Walked}

pub contains_one : {X : Type 0} (x y : X) → Contains (x ∷ []) y → x ≡ y
contains_one x y h = elim (Contains-push_cases [] x y h) [ inl none ↦ absurd (omega (arith, none.1)) | inr same ↦ same ]

-- a place that is seen gets its mark
pub AreMarks-visit : (marks : List Bool) (seen : List ℕ) (place : ℕ) → AreMarks marks seen → place < length marks → get_or marks place false ≡ false
    → AreMarks (set marks place true) (seen ++ place ∷ [])
AreMarks-visit marks seen place are within unmarked = record { marked = λ q. (to q, from q); once = counted }
  where
    to : (q : ℕ) → get_or (set marks place true) q false ≡ true → Contains (seen ++ place ∷ []) q
    to q marked =
        elim (eqb_tells q place) [
          | inl same ↦ subst (Contains (seen ++ place ∷ [])) (sym same.1) (Contains-push seen place)
          | inr other ↦ Contains-append_left seen (place ∷ []) q ((are.marked q).0 (sym (get_or-set_other marks place q true false other.1) ∙ marked))
        ]

    from : (q : ℕ) → Contains (seen ++ place ∷ []) q → get_or (set marks place true) q false ≡ true
    from q has =
        elim (eqb_tells q place) [
          | inl same ↦ subst (λ r. get_or (set marks place true) r false ≡ true) (sym same.1) (get_or-set_same marks place true false within)
          | inr other ↦
              elim (Contains-push_cases seen place q has) [
                | inl before ↦ get_or-set_other marks place q true false other.1 ∙ (are.marked q).1 before
                | inr same ↦ absurd (other.1 (sym same))
              ]
        ]

    counted : count_by (λ mark. mark) (set marks place true) ≡ length (seen ++ place ∷ [])
    counted =
        let f : Bool → ℕ = λ mark. cond mark 1 0 in
        let changed = sum_by-set f marks place true false within in
        let none : f (get_or marks place false) ≡ 0 = ap f unmarked in
        let before = are.once in
        let longer = length_push seen place in
        omega arith

pub AddsPlaces-push : (old : List ℕ) (place : ℕ) → AddsPlaces old (place ∷ []) (old ++ place ∷ [])
AddsPlaces-push old place =
    record {
      more = place ∷ [];
      keeps = refl;
      row_in = λ q h. Contains-append_right old (place ∷ []) q h;
      only = λ q h. Contains-append_cases old (place ∷ []) q h;
    }

pub AddsPlaces-keeps : (old row new : List ℕ) (q : ℕ) → AddsPlaces old row new → Contains old q → Contains new q
AddsPlaces-keeps old row new q adds h = subst (λ xs. Contains xs q) (sym adds.keeps) (Contains-append_left old adds.more q h)

pub AddsPlaces-join : (old us mid vs new : List ℕ) → AddsPlaces old us mid → AddsPlaces mid vs new → AddsPlaces old (us ++ vs) new
AddsPlaces-join old us mid vs new first second =
    record {
      more = first.more ++ second.more;
      keeps = second.keeps ∙ (ap (λ xs. xs ++ second.more) first.keeps ∙ append_assoc old first.more second.more);
      row_in = λ q h. elim (Contains-append_cases us vs q h) [
        | inl in_us ↦ AddsPlaces-keeps mid vs new q second (first.row_in q in_us)
        | inr in_vs ↦ second.row_in q in_vs
      ];
      only = λ q h. elim (second.only q h) [
        | inl in_mid ↦ elim (first.only q in_mid) [ inl in_old ↦ inl in_old | inr in_us ↦ inr (Contains-append_left us vs q in_us) ]
        | inr in_vs ↦ inr (Contains-append_right us vs q in_vs)
      ];
    }

pub AddsPlaces-more : (old row mid new : List ℕ) (i place : ℕ) → i < length row → place ≡ get_or row i 0 → AddsPlaces old (take i row) mid
    → AddsPlaces mid (place ∷ []) new
    → AddsPlaces old (take (i + 1) row) new
AddsPlaces-more old row mid new i place within is first second =
    subst (λ xs. AddsPlaces old xs new) (sym (take_more row i 0 within ∙ ap (λ p. take i row ++ p ∷ []) (sym is)))
    (AddsPlaces-join old (take i row) mid (place ∷ []) new first second)

pub Leads-push : (graph : List (List ℕ)) (a b c : ℕ) → Leads graph a b → Edge graph b c → Leads graph a c
Leads-push graph a b c itself edge = through edge itself
Leads-push graph a b c (through {b = d} first more) edge = through first (Leads-push graph d b c more edge)

pub Walked-start : (graph : List (List ℕ)) (starts seen : List ℕ) → AddsPlaces [] starts seen → Walked graph starts seen 0
Walked-start graph starts seen adds =
    record {
      begun = adds.row_in;
      reached = λ q h. elim (adds.only q h) [ inl none ↦ absurd (omega (arith, none.1)) | inr among ↦ (q, among, itself) ];
      followed = λ k q below. absurd (omega arith);
    }

pub Walked-more : (graph : List (List ℕ)) (starts seen new : List ℕ) (next place : ℕ) → Walked graph starts seen next → next < length seen
    → place ≡ get_or seen next 0 → AddsPlaces seen (get_or graph place []) new → Walked graph starts new (next + 1)
Walked-more graph starts seen new next place walked within is adds =
    record { begun = λ start h. keeps start (walked.begun start h); reached = reached; followed = followed }
  where
    keeps : (q : ℕ) → Contains seen q → Contains new q
    keeps q h = AddsPlaces-keeps seen (get_or graph place []) new q adds h

    here : Contains seen place
    here = subst (Contains seen) (sym is) (Contains-get_or seen next 0 within)

    reached : (q : ℕ) → Contains new q → LeadsFrom graph starts q
    reached q h = elim (adds.only q h) [
      | inl old ↦ walked.reached q old
      | inr edge ↦ let from = walked.reached place here in (from.0, from.1, Leads-push graph from.0 place q from.2 edge)
    ]

    stays : (k : ℕ) → k < length seen → get_or new k 0 ≡ get_or seen k 0
    stays k below = ap (λ xs. get_or xs k 0) adds.keeps ∙ get_or_append_left seen adds.more 0 k below

    followed : (k q : ℕ) → k < next + 1 → Edge graph (get_or new k 0) q → Contains new q
    followed k q below edge =
        elim (eqb_tells k next) [
          | inl same ↦ adds.row_in q (subst (λ p. Edge graph p q) (stays k (omega arith) ∙ (ap (λ j. get_or seen j 0) same.1 ∙ sym is)) edge)
          | inr other ↦
              keeps q (walked.followed k q (let apart = other.1 in omega arith)
              (subst (λ p. Edge graph p q) (stays k (let apart = other.1 in omega arith)) edge))
        ]

closed : (graph : List (List ℕ)) (starts seen : List ℕ) → Walked graph starts seen (length seen) → (a b : ℕ) → Leads graph a b
    → Contains seen a → Contains seen b
closed graph starts seen walked a b itself h = h
closed graph starts seen walked a b (through {b = c} edge more) h =
    closed graph starts seen walked c b more
    (walked.followed h.0 c h.1 (subst (λ p. Edge graph p c) (sym h.2 ∙ get_or_default seen h.0 a 0 h.1) edge))

-- at the end of a walk the marks are those of the places that are reached
pub Walked-end : (graph : List (List ℕ)) (starts : List ℕ) (marks : List Bool) (seen : List ℕ) (next : ℕ) → AreMarks marks seen
    → Walked graph starts seen next
    → length seen ≤ next → (place : ℕ) → (get_or marks place false ≡ true) ↔ LeadsFrom graph starts place
Walked-end graph starts marks seen next are walked ended place =
    let done : Walked graph starts seen (length seen) =
    record { begun = walked.begun; reached = walked.reached; followed = λ k q below edge. walked.followed k q (omega arith) edge } in (
      λ marked. walked.reached place ((are.marked place).0 marked),
      λ from. (are.marked place).1 (closed graph starts seen done from.0 place from.2 (walked.begun from.0 from.1)),
    )

-- a path from the only start
pub from_one : (graph : List (List ℕ)) (start place : ℕ) → LeadsFrom graph (start ∷ []) place ↔ Leads graph start place
from_one graph start place = (
  λ from. subst (λ q. Leads graph q place) (sym (contains_one start from.0 from.1)) from.2,
  λ leads. (start, Contains-push [] start, leads),
)

-- what a row of a graph has stands below the count of places
pub within_marks : (graph : List (List ℕ)) (row : List ℕ) (place k d n : ℕ) → ((a b : ℕ) → Edge graph a b → b < length graph)
    → row ≡ get_or graph place []
    → n ≡ length graph → k < length row → get_or row k d < n
within_marks graph row place k d n closed is count below =
    let h = closed place (get_or row k d)
    (subst (λ xs. Edge graph place (get_or xs k d)) (sym is)
    (Contains-get_or (get_or graph place []) k d (subst (λ xs. k < length xs) is below))) in
    omega arith
