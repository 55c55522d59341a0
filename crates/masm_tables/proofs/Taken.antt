-- Tables of lists before and behind a body that takes some of them.
use Rattle.masm_tables.proofs.Words.{◌≡◌, ℕ, ◌<◌, List, [], ◌∷◌, ◌++◌, length, inl, inr, refl, sym, ap, subst, ◌∙◌, append-nil, cases_lt, eqb_tells}
use Rattle.masm_tables.proofs.Words.{get_or_past, Contains, Table, Known, Tree, lists_known, left_at, HasNoneLeft, Serves, place_at, places_used, times_among}
use Rattle.masm_tables.proofs.Words.{Use, cons_here}
use Rattle.std.proofs.lemmas.List.Elements.{Contains-append_right}
use Rattle.masm_flat.specs.declared.known.Scope.{Scope}
use Rattle.masm_uses.specs.Plans.{IsNoneOrAll}
use Rattle.masm_names.proofs.TimesAmong.{times_no}

pub times_none : (places : List ℕ) (q : ℕ) → ¬ (Contains places q) → times_among places q ≡ 0
times_none [] q none = refl
times_none (x ∷ places) q none = elim (eqb_tells q x) [
  | inl same ↦ absurd (none (subst (Contains (x ∷ places)) (sym same.1) (cons_here x places)))
  | inr apart ↦ times_no x places q apart.0 ∙ times_none places q (λ has. none (Contains-append_right (x ∷ []) places q has))
]

-- what is expected of a table is counted
pub counted_in : (old table : Table) (lent ended : List ℕ) → length table.left.items ≡ length old.left.items → lent ≡ ended
    → ((q : ℕ) → q < length old.left.items → left_at table q ≡ times_among lent q)
    → (q : ℕ) → q < length table.left.items → left_at table q ≡ times_among ended q
counted_in old table lent ended count same left q low = left q (subst (λ n. q < n) count low) ∙ ap (λ xs. times_among xs q) same

module _ (table : Table) (ended : List ℕ) (counted : (q : ℕ) → q < length table.left.items → left_at table q ≡ times_among ended q) where
  -- what is left at a place that does not end
  pub none_left : (q : ℕ) → ¬ (Contains ended q) → left_at table q ≡ 0
  none_left q none = elim (cases_lt q (length table.left.items)) [
    | inl low ↦ counted q low ∙ times_none ended q none
    | inr past ↦ get_or_past table.left.items q 0 past
  ]

  -- a body is served the lists that the table has
  pub serves_start : (scope : Scope) (uses : List Use) → IsNoneOrAll ended (places_used (place_at scope.names.now) uses)
      → Serves scope (lists_known scope.names.now table.lists.items scope.digests.now scope.dispatch.now scope.outside.now.exports.now) table (uses ++ [])
  serves_start scope uses ends = record {
    exported = λ name. refl;
    dispatch = refl;
    lists = λ u has kind runs. refl;
    digests = λ u has kind refers. refl;
    left = λ q. elim (cases_lt q (length table.left.items)) [
      | inl low ↦ elim (ends q) [
        | inl none ↦ inl (counted q low ∙ none)
        | inr all ↦ inr (counted q low ∙ (all ∙ ap (λ us. times_among (places_used (place_at scope.names.now) us) q) (sym (append-nil uses))))
      ]
      | inr past ↦ inl (get_or_past table.left.items q 0 past)
    ];
  }

-- behind the last use none is left
pub none_end : (scope : Scope) (known : Known Tree) (table : Table) → Serves scope known table [] → HasNoneLeft table
none_end scope known table serves q = elim (serves.left q) [ inl none ↦ none | inr counted ↦ counted ]

pub all_of : (places : List ℕ) → IsNoneOrAll places places
all_of places q = inr refl
