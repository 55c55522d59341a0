-- What rows take from the tape, one behind the other.
use Rattle.sound_evidence.proofs.Words.{◌≡◌, ℕ, suc, ◌+◌, ◌<◌, ◌≤◌, arith, List, [], ◌∷◌, ◌++◌, drop, length, refl, sym, ap, ◌∙◌, add-one, append_assoc}
use Rattle.sound_evidence.proofs.Words.{append-nil, length-drop, Op, taken_by, tape_of, row_at, op_in, IsAt, Takes}
use Rattle.facts_steps.proofs.Places.{tape_goes}

pub four : (t : List ℕ) (a b c d : ℕ) → (((t ++ a ∷ []) ++ b ∷ []) ++ c ∷ []) ++ d ∷ [] ≡ t ++ (a ∷ b ∷ c ∷ d ∷ [])
four [] a b c d = refl
four (x ∷ t) a b c d = ap (λ (u : List ℕ). x ∷ u) (four t a b c d)

nothing_left : (rows : List (List ℕ)) → length rows ≤ 1 → tape_of rows ≡ []
unfolding tape_of
nothing_left [] few = refl
nothing_left (x ∷ []) few = refl
nothing_left (x ∷ (y ∷ rows)) few = absurd (omega (arith, few))

module _ (rows : List (List ℕ)) where
  pub none_between : (i : ℕ) (t : List ℕ) → Takes rows i i t t
  none_between i t = record { is = refl }

  pub joined : (i k e : ℕ) (t u v : List ℕ) → Takes rows i k t u → Takes rows k e u v → Takes rows i e t v
  joined i k e t u v one other = record { is = one.is ∙ other.is }

  pub row_takes : (i : ℕ) (t u : List ℕ) → suc i < length rows → u ≡ t ++ taken_by (op_in rows i) (row_at rows (suc i)) → Takes rows i (i + 1) t u
  row_takes i t u within is = rw add-one (record {
    is = ap (λ (x : List ℕ). t ++ x) (tape_goes rows i within)
        ∙ sym (append_assoc t (taken_by (op_in rows i) (row_at rows (suc i))) (tape_of (drop (suc i) rows)))
        ∙ ap (λ (x : List ℕ). x ++ tape_of (drop (suc i) rows)) (sym is);
  })

  -- a row with an operation that takes nothing
  pub row_rests : (i : ℕ) (op : Op) (t : List ℕ) → IsAt rows i op → taken_by op (row_at rows (suc i)) ≡ [] → Takes rows i (i + 1) t t
  row_rests i op t here none =
      row_takes i t t here.within
      (sym (append-nil t) ∙ ap (λ (x : List ℕ). t ++ x) (sym (ap (λ o. taken_by o (row_at rows (suc i))) here.is ∙ none)))

  -- only the last row is left
  pub all_taken : (e : ℕ) (t u : List ℕ) → suc (suc e) ≡ length rows → t ≡ [] → Takes rows 0 (e + 1) t u → u ≡ tape_of rows
  all_taken e t u last none takes =
      sym (append-nil u) ∙ ap (λ (x : List ℕ). u ++ x) (sym (nothing_left (drop (e + 1) rows) few)) ∙ sym takes.is
      ∙ ap (λ (x : List ℕ). x ++ tape_of rows) none
    where
      few : length (drop (e + 1) rows) ≤ 1
      few = omega (arith, length-drop (e + 1) rows, last)
