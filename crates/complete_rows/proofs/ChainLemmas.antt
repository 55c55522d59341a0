-- Sums over the pairs of a run's rows, by potentials: what is owed before a cycle and what its pair gives is what its pair asks and what
-- is owed behind it.
use Rattle.complete_rows.proofs.Words
use Words.{◌≡◌, ℕ, ◌+◌, List, [], ◌∷◌, ◌++◌, length, refl, ap, ◌∙◌, arith, State, Task, Counted, counted, over_first, over_rows, total, with_next, total-front}
use Words.{Event, AreLinked, Decoder, advance, decoder_after, IsMoment, event_at}
use Words.chains
use Rattle.buses.specs.Counts.{at_row}
use Rattle.complete_rows.specs.Chains.{over_pairs}

-- a bus's count over the rows is the sum over their pairs
pub over_rows_pairs : (tuples : List ℕ → List ℕ → List Counted) (u : List ℕ) (rows : List (List ℕ))
    → over_rows (with_next tuples) rows u ≡ over_pairs (λ x y. counted (tuples x y) u) rows
unfolding over_first over_pairs total counted
over_rows_pairs tuples u [] = refl
over_rows_pairs tuples u (x ∷ []) = refl
over_rows_pairs tuples u (x ∷ y ∷ rows) =
    total-front (length (y ∷ rows)) (λ i. counted (at_row (with_next tuples) (x ∷ y ∷ rows) i) u)
    ∙ ap (λ n. counted (tuples x y) u + n) (over_rows_pairs tuples u (y ∷ rows))

module _ (constants : List ℕ) (kernel : List (List ℕ)) (limit : ℕ) (u : State) where
  -- each pair gives and asks so that what is owed moves on
  abbrev pub Moves : (List ℕ → List ℕ → ℕ) → (List ℕ → List ℕ → ℕ) → (List Task → Decoder → State → List Event → ℕ) → Type 0
  Moves given asked owed = (x y : List ℕ) (rows : List (List ℕ)) (m : IsMoment constants kernel limit x y)
      → AreLinked constants kernel limit u (m.rest ++ m.todo) (advance m.d (event_at constants kernel m.mark m.s) m.later) m.t m.later (y ∷ rows)
      → given x y + owed (m.task ∷ m.todo) m.d m.s (event_at constants kernel m.mark m.s ∷ m.later)
      ≡ asked x y + owed (m.rest ++ m.todo) (advance m.d (event_at constants kernel m.mark m.s) m.later) m.t m.later

module _ {constants : List ℕ} {kernel : List (List ℕ)} {limit : ℕ} {u : State} where
  -- what is given over a run and owed at its start is what is asked and owed at its end
  pub balanced : (given asked : List ℕ → List ℕ → ℕ) (owed : List Task → Decoder → State → List Event → ℕ) → Moves constants kernel limit u given asked owed
      → {todo : List Task} {d : Decoder} {s : State} {events : List Event} {rows : List (List ℕ)}
      → AreLinked constants kernel limit u todo d s events rows
      → over_pairs given rows + owed todo d s events ≡ over_pairs asked rows + owed [] (decoder_after d events) u []
  unfolding over_pairs decoder_after
  balanced given asked owed pair (chains.ends e) = refl
  balanced given asked owed pair (chains.goes {x = x} {y = y} {rows = rows} m later) =
      let here = pair x y rows m later in
      let behind = balanced given asked owed pair later in
      omega (arith, here, behind)

  pub bus_balanced : (given asked : List ℕ → List ℕ → List Counted) (v : List ℕ) (owed : List Task → Decoder → State → List Event → ℕ)
      → Moves constants kernel limit u (λ x y. counted (given x y) v) (λ x y. counted (asked x y) v) owed
      → {todo : List Task} {d : Decoder} {s : State} {events : List Event} {rows : List (List ℕ)}
      → AreLinked constants kernel limit u todo d s events rows
      → over_rows (with_next given) rows v + owed todo d s events
      ≡ over_rows (with_next asked) rows v + owed [] (decoder_after d events) u []
  bus_balanced given asked v owed pair {rows = rows} linked =
      let whole = balanced (λ x y. counted (given x y) v) (λ x y. counted (asked x y) v) owed pair linked in
      omega (arith, whole, over_rows_pairs given v rows, over_rows_pairs asked v rows)
