-- What follows along the chain of a run's rows, and sums over its pairs.
use Rattle.complete_rows.proofs.Words
use Words.{◌≡◌, ℕ, ◌+◌, List, [], ◌∷◌, ◌++◌, map, All, refl, ap, ◌∙◌, arith, All-cons, All-nil, Core, State, IsBatch, Mark, Do, IsWholeMark, hash_of}
use Words.{op_of_mark, hash-batch, Task, Within, Next, operation, respan, Counted, counted, over_rows, with_next}
use Words.{visible_of, Event, IsSmallCore, AreLinked, Decoder, advance, decoder_after, seen_behind, Kind, kind_of, IsMoment, event_at, respans, respans_by}
use Words.chains
use Words.kinds
use Rattle.complete_rows.specs.Chains.{over_pairs}
use Rattle.complete_rows.proofs.AgreeLemmas.{kind_is}
use Rattle.complete_rows.proofs.ChainLemmas.{balanced, over_rows_pairs}

-- the batches of the span that is open
abbrev pub coming : List Task → List (List ℕ)
coming [] = []
coming (Within items later digest ∷ todo) = later
coming (task ∷ todo) = []

coming_step : (constants : List ℕ) {task : Task} {c : Core} {mark : Mark} {rest : List Task} → Next constants task c mark rest → IsWholeMark mark
    → (todo : List Task) (more : List (List ℕ)) → more ≡ coming (rest ++ todo)
    → respans_by (kind_of (op_of_mark mark)) (hash_of mark) more ≡ coming (task ∷ todo)
coming_step constants (operation {item = item}) w todo more e =
    ap (λ k. respans_by k (hash_of (Do item)) more) (kind_is item.op w.ordinary) ∙ e
coming_step constants (respan {batch = batch} read) w todo more e = ap (λ l. batch ∷ l) e
coming_step constants next w todo more e = refl

respans_whole : (k : Kind) (batch : List ℕ) (later : List (List ℕ)) → IsBatch batch → All IsBatch later → All IsBatch (respans_by k batch later)
respans_whole kinds.Ordinary batch later h all = all
respans_whole kinds.Respan batch later h all = All-cons IsBatch batch later h all
respans_whole kind batch later h all = All-nil IsBatch

-- counts of lists that are joined
pub map_counts : {A : Type 0} (f : A → Counted) (xs ys : List A) (v : List ℕ)
    → counted (map f (xs ++ ys)) v ≡ counted (map f xs) v + counted (map f ys) v
unfolding counted
map_counts f [] ys v = omega arith
map_counts f (x ∷ xs) ys v = let later = map_counts f xs ys v in omega (arith, later)

nothing_given : (rows : List (List ℕ)) → over_pairs (λ x y. 0) rows ≡ 0
unfolding over_pairs
nothing_given [] = refl
nothing_given (x ∷ []) = refl
nothing_given (x ∷ y ∷ rows) = omega (arith, nothing_given (y ∷ rows))

module _ (constants : List ℕ) (kernel : List (List ℕ)) (limit : ℕ) (u : State) where
  -- each row asks what is owed before it and not behind it
  abbrev pub Asks : (List ℕ → List ℕ → List Counted) → List ℕ → (List Task → Decoder → List Event → ℕ) → Type 0
  Asks tuples v owed = (x y : List ℕ) (rows : List (List ℕ)) (m : IsMoment constants kernel limit x y)
      → AreLinked constants kernel limit u (m.rest ++ m.todo) (advance m.d (event_at constants kernel m.mark m.s) m.later) m.t m.later (y ∷ rows)
      → owed (m.task ∷ m.todo) m.d (event_at constants kernel m.mark m.s ∷ m.later)
      ≡ counted (tuples x y) v + owed (m.rest ++ m.todo) (advance m.d (event_at constants kernel m.mark m.s) m.later) m.later

module _ {constants : List ℕ} {kernel : List (List ℕ)} {limit : ℕ} {u : State} where
  -- the RESPANs that come are those of the batches that the span still has
  pub coming_are : {todo : List Task} {d : Decoder} {s : State} {events : List Event} {rows : List (List ℕ)}
      → AreLinked constants kernel limit u todo d s events rows → respans events ≡ coming todo
  unfolding respans
  coming_are (chains.ends e) = refl
  coming_are (chains.goes m later) = coming_step constants m.first m.whole m.todo (respans m.later) (coming_are later)

  pub coming_whole : {todo : List Task} {d : Decoder} {s : State} {events : List Event} {rows : List (List ℕ)}
      → AreLinked constants kernel limit u todo d s events rows → All IsBatch (respans events)
  unfolding respans
  coming_whole (chains.ends e) = All-nil IsBatch
  coming_whole (chains.goes m later) =
      respans_whole (kind_of (op_of_mark m.mark)) (hash_of m.mark) (respans m.later) (hash-batch m.mark m.whole) (coming_whole later)

  -- the state behind an event is the one before the next
  pub seen_is : {todo : List Task} {d : Decoder} {s : State} {events : List Event} {rows : List (List ℕ)}
      → AreLinked constants kernel limit u todo d s events rows → seen_behind (visible_of u.core) events ≡ visible_of s.core
  seen_is (chains.ends e) = refl
  seen_is (chains.goes m later) = refl

  pub small_is : {todo : List Task} {d : Decoder} {s : State} {events : List Event} {rows : List (List ℕ)}
      → AreLinked constants kernel limit u todo d s events rows → IsSmallCore s.core
  small_is (chains.ends e) = e.small
  small_is (chains.goes m later) = m.small

  -- what is owed at the start of a run is what is asked over it
  pub rows_ask : (tuples : List ℕ → List ℕ → List Counted) (v : List ℕ) (owed : List Task → Decoder → List Event → ℕ) → Asks constants kernel limit u tuples v owed
      → ((d : Decoder) → owed [] d [] ≡ 0)
      → {todo : List Task} {d : Decoder} {s : State} {events : List Event} {rows : List (List ℕ)}
      → AreLinked constants kernel limit u todo d s events rows
      → over_rows (with_next tuples) rows v ≡ owed todo d events
  rows_ask tuples v owed pair none {d = d} {events = events} {rows = rows} linked =
      let whole = balanced (λ x y. 0) (λ x y. counted (tuples x y) v) (λ todo d s events. owed todo d events)
      (λ x y rows m later. omega (arith, pair x y rows m later)) linked in
      omega (arith, whole, nothing_given rows, over_rows_pairs tuples v rows, none (decoder_after d events))

  -- so it is where that depends on the events alone
  pub events_ask : (tuples : List ℕ → List ℕ → List Counted) (v : List ℕ) (asked : List Event → ℕ) → asked [] ≡ 0
      → Asks constants kernel limit u tuples v (λ todo d events. asked events)
      → {todo : List Task} {d : Decoder} {s : State} {events : List Event} {rows : List (List ℕ)}
      → AreLinked constants kernel limit u todo d s events rows
      → over_rows (with_next tuples) rows v ≡ asked events
  events_ask tuples v asked none pair linked = rows_ask tuples v (λ todo d events. asked events) pair (λ d. none) linked
