-- The one first child of a join.
use Rattle.sound_buses.proofs.Words.{◌≡◌, ℕ, suc, ◌+◌, ◌≤◌, inl, inr, true, List, [], ◌∷◌, sym, ap, subst, ◌∙◌, arith, counted, once, is_start_op, addr}
use Rattle.sound_buses.proofs.Words.{children_asked, children_given, children_of, front, row_at, op_in, IsAt, Starts, own}
use Rattle.sound_buses.proofs.Words.ops
use Rattle.sound_buses.specs.Children.{EndsFirst, FirstChild}
use Rattle.sound_buses.proofs.ChildAsks.{asked_is, asks}
use Rattle.sound_buses.proofs.ChildTuples.{bit_of, child_tuple, first_few, gives_first, join_gives, last_apart, same_bit, same_child}
use Rattle.sound_buses.proofs.RowSums.{IsInRow, in_rows, rows_have, rows_one, rows_same, rows_some}
use Rattle.sound_buses.proofs.Splits.{op_from, zero_or}
use Rattle.sound_buses.proofs.Tuples.{single_is}

-- the tuple of a first child
abbrev first_tuple : ℕ → List ℕ → List ℕ
first_tuple parent digest = child_tuple parent digest 1

never_by : (parent : ℕ) (root digest : List ℕ) → counted (once (child_tuple 0 root 0) ∷ []) (first_tuple parent digest) ≡ 0
never_by parent root digest = elim (zero_or (counted (once (child_tuple 0 root 0) ∷ []) (first_tuple parent digest))) [
  | inl h ↦ last_apart 0 parent root digest (single_is (once (child_tuple 0 root 0)) (first_tuple parent digest) h)
  | inr z ↦ z
]

module _ (rows : List (List ℕ)) (root : List ℕ)
    (alike : (u : List ℕ) → in_rows children_asked rows u ≡ counted (once (child_tuple 0 root 0) ∷ []) u + in_rows children_given rows u)
    (one : (i j : ℕ) → Starts rows i → Starts rows j → own rows i ≡ own rows j → i ≡ j) where
  -- a row that gives the tuple of a first child is the join's
  first_in : (parent : ℕ) (digest : List ℕ) {j : ℕ} → IsInRow children_given rows (first_tuple parent digest) j
      → Starts rows j × (own rows j ≡ parent) × (front (row_at rows j) ≡ digest)
  unfolding children_given
  first_in parent digest {j} at =
      let g = gives_first (row_at rows j) (row_at rows (suc j)) parent digest (op_in rows j) at.positive in
      (record { within = at.within; is = ap is_start_op g.is }, g.parent_is, g.digest_is)

  given_once : (parent : ℕ) (digest : List ℕ) → in_rows children_given rows (first_tuple parent digest) ≤ 1
  unfolding children_given
  given_once parent digest =
      rows_one children_given rows (first_tuple parent digest)
      (λ i h. first_few (op_in rows i) (row_at rows i) (row_at rows (suc i)) parent digest) (λ i j here there.
      let a = first_in parent digest here in let b = first_in parent digest there in one i j a.0 b.0 (a.1 ∙ sym b.1))

  -- the END of a first child asks the tuple that says so
  first_asks : {parent e : ℕ} → EndsFirst rows parent e → IsInRow children_asked rows (first_tuple parent (front (row_at rows e))) e
  first_asks {e = e} is =
      subst (λ n. IsInRow children_asked rows (first_tuple n (front (row_at rows e))) e) is.inside
      (subst (λ b. IsInRow children_asked rows (child_tuple (addr (row_at rows (suc e))) (front (row_at rows e)) (bit_of b)) e) is.goes_on (asks is.ends))

  module _ (j : ℕ) (at : IsAt rows j ops.Join) where
    abbrev tuple : List ℕ
    tuple = first_tuple (own rows j) (front (row_at rows j))

    -- and its digest is the one that the join names
    first_digest : {e : ℕ} → EndsFirst rows (own rows j) e → front (row_at rows e) ≡ front (row_at rows j)
    first_digest {e} is =
        let u = first_tuple (own rows j) (front (row_at rows e)) in
        let found : (i : ℕ) × IsInRow children_given rows (first_tuple (own rows j) (front (row_at rows e))) i =
        rows_some (omega (arith, rows_have (first_asks is), alike u, never_by (own rows j) root (front (row_at rows e)))) in
        let g = first_in (own rows j) (front (row_at rows e)) found.1 in
        let same = one found.0 j g.0 (record { within = at.within; is = ap is_start_op at.is }) g.1 in
        sym g.2 ∙ ap (λ i. front (row_at rows i)) same

    join_in : IsInRow children_given rows tuple j
    unfolding children_given
    join_in = record {
      within = at.within;
      positive =
          omega (
            arith,
            ap (λ op. counted (children_of op (row_at rows j) (row_at rows (suc j))) tuple) at.is
                ∙ join_gives (row_at rows j) (row_at rows (suc j)),
          );
    }

    pub first_child : FirstChild rows j
    first_child = record {
      end = found.0;
      is_first = is;
      digest = first_digest is;
      only = λ d other. rows_same
          (omega (arith, alike tuple, never_by (own rows j) root (front (row_at rows j)), given_once (own rows j) (front (row_at rows j))))
          (subst (λ w. IsInRow children_asked rows (first_tuple (own rows j) w) d) (first_digest other) (first_asks other)) found.1;
    }
      where
        found : (e : ℕ) × IsInRow children_asked rows tuple e
        found = rows_some (omega (arith, rows_have join_in, alike tuple))

        is : EndsFirst rows (own rows j) found.0
        is =
            let asked = asked_is found.1 in
            let parts = same_child (addr (row_at rows (suc found.0))) (own rows j) (front (row_at rows found.0)) (front (row_at rows j))
            (bit_of (is_start_op (op_in rows (suc found.0)))) 1 asked.1 in
            record {
              ends = record { within = found.1.within; is = op_from asked.0 };
              inside = parts.parent;
              goes_on = same_bit (is_start_op (op_in rows (suc found.0))) true parts.more;
            }
