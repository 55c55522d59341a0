-- Orders in which the places that have a mark stand first.
use Rattle.std.proofs.Common.{◌≡◌, ℕ, ◌+◌, ◌-◌, ◌<◌, Bool, true, false, not, List, ◌++◌, length, take, get_or, inl, inr, refl, sym, ap, subst, ◌∙◌, arith}
use Rattle.std.specs.Prelude.{filter}
use Rattle.std.proofs.lemmas.Bool.{false≢true, cases_lt, cases_Bool}
use Rattle.std.proofs.lemmas.List.{take-append-le, get_or_append_left, get_or-append_right, get_or_default, length-append}
use Rattle.std.proofs.lemmas.List.Elements.{Contains-append_left, Contains-append_right, Contains-append_cases, Contains-get_or, filter_passes}
use Rattle.std.proofs.Math.Seq.{take-append-add}
use Rattle.std.specs.List.{Contains}
use Rattle.graphs.specs.Graph.{Edge}
use Rattle.graphs.specs.Orders.{IsOrder, marked_first}
use Rattle.graphs.proofs.Filters.{filter_keeps, filter_from, kept_at}
use Rattle.graphs.proofs.SortLemmas.{contains_whole, contains_front}

module _ (marks : List Bool) (order : List ℕ) where
  abbrev is_first : ℕ → Bool
  is_first place = get_or marks place false

  abbrev is_later : ℕ → Bool
  is_later place = not (get_or marks place false)

  abbrev fronts : List ℕ
  fronts = filter is_first order

  abbrev rests : List ℕ
  rests = filter is_later order

  whole : (q : ℕ) → Contains order q → Contains (fronts ++ rests) q
  whole q h = elim (cases_Bool (get_or marks q false)) [
    | inl marked ↦ Contains-append_left fronts rests q (filter_keeps is_first order q marked h)
    | inr plain ↦ Contains-append_right fronts rests q (filter_keeps is_later order q (ap not plain) h)
  ]

  part : (q : ℕ) → Contains (fronts ++ rests) q → Contains order q
  part q h = elim (Contains-append_cases fronts rests q h) [
    | inl front ↦ filter_from is_first order q front
    | inr rest ↦ filter_from is_later order q rest
  ]

  -- what has a mark stands before what has none
  pub marked_before : (k j : ℕ) → get_or marks (get_or (marked_first marks order) k 0) false ≡ false → get_or marks j false ≡ true
      → Contains order j → Contains (take k (marked_first marks order)) j
  marked_before k j plain marked has = elim (cases_lt k (length fronts)) [
    | inl low ↦
        absurd (false≢true (sym plain ∙ (ap (λ q. get_or marks q false) (get_or_append_left fronts rests 0 k low)
        ∙ filter_passes is_first order k 0 low)))
    | inr late ↦ contains_front k fronts rests j late (filter_keeps is_first order j marked has)
  ]

  -- where no edge leads from a mark to none, it is an order still
  module _ (graph : List (List ℕ)) (is : IsOrder graph order)
      (closed : (a b : ℕ) → get_or marks a false ≡ true → Edge graph a b → get_or marks b false ≡ true) where
    behind_front : (k b : ℕ) → k < length fronts → Edge graph (get_or (fronts ++ rests) k 0) b → Contains (take k (fronts ++ rests)) b
    behind_front k b low edge =
        let found = kept_at is_first order k low in
        let same : get_or (fronts ++ rests) k 0 ≡ get_or fronts k 0 = get_or_append_left fronts rests 0 k low in
        let marked = closed (get_or fronts k 0) b (filter_passes is_first order k 0 low) (subst (λ q. Edge graph q b) same edge) in
        subst (λ xs. Contains xs b) (sym (take-append-le k fronts rests (omega arith)))
        (found.3 b marked (is.behind found.0 b found.1 (subst (λ q. Edge graph q b) (same ∙ sym found.2) edge)))

    behind_rest : (n b : ℕ) → n < length rests → Edge graph (get_or rests n 0) b → Contains (take (length fronts + n) (fronts ++ rests)) b
    behind_rest n b low edge =
        let found = kept_at is_later order n low in
        let before : Contains (take found.0 order) b = is.behind found.0 b found.1 (subst (λ q. Edge graph q b) (sym found.2) edge) in
        elim (cases_Bool (get_or marks b false)) [
          | inl marked ↦
              contains_front (length fronts + n) fronts rests b (omega arith)
              (filter_keeps is_first order b marked (contains_whole found.0 order b before))
          | inr plain ↦
              subst (λ xs. Contains xs b) (sym (take-append-add fronts rests n))
              (Contains-append_right fronts (take n rests) b (found.3 b (ap not plain) before))
        ]

    pub IsOrder-marked_first : IsOrder graph (marked_first marks order)
    IsOrder-marked_first = record {
      within = λ k below.
          let has = part (get_or (fronts ++ rests) k 0) (Contains-get_or (fronts ++ rests) k 0 below) in
          subst (λ q. q < length graph) (sym (sym has.2 ∙ get_or_default order has.0 (get_or (fronts ++ rests) k 0) 0 has.1))
          (is.within has.0 has.1);
      all = λ place below. whole place (is.all place below);
      behind = λ k b below edge. elim (cases_lt k (length fronts)) [
        | inl low ↦ behind_front k b low edge
        | inr late ↦
            let n = k - length fronts in
            let split : length fronts + n ≡ k = omega arith in
            let low : n < length rests = let count = length-append fronts rests in omega arith in
            subst (λ m. Contains (take m (fronts ++ rests)) b) split
            (behind_rest n b low (subst (λ q. Edge graph q b) (get_or-append_right fronts rests (length fronts) k 0 refl late) edge))
      ];
    }
