-- The rows of a run are those of its cycles, one behind the other, and of HALT.
use Rattle.complete_rows.proofs.Words
use Words.{All, ◌≡◌, ℕ, zero, suc, ◌+◌, ◌<◌, ◌≤◌, List, [], ◌∷◌, length, refl, sym, ap, subst, arith, All-head, All-tail, number_of_constants, State}
use Words.{IsWellFormed, advice_taken, event_of, Task, Steps, ended, goes, cycle-clock, cycle-kept, visible_of, Event, Agrees, events_of, IsBounded}
use Words.{IsSmallCore, AreLinked, Decoder, advance, decoder_after, halted, row_of, seen_behind, AreMoments, IsLastMoment, IsMoment, IsRowAt, event_at, row_at}
use Words.run
use Words.chains
use Rattle.block_tree.proofs.TaskLemmas.{AreWholeTasks, next-whole, whole-append}
use Rattle.complete_rows.specs.Filling.{fill}
use Rattle.complete_rows.specs.Moments as moments
use Rattle.complete_rows.proofs.AgreeNext.{agrees_next}
use Rattle.complete_rows.proofs.BoundLemmas.{bounded_next}

-- the first of some rows shows a place, and all of them are those of the run from there on
pub record Filled (constants : List ℕ) (kernel : List (List ℕ)) (limit : ℕ) (todo : List Task) (d : Decoder) (s u : State) (events : List Event)
    (rows : List (List ℕ)) : Type 0 where
  pub x : List ℕ
  pub others : List (List ℕ)
  pub are : rows ≡ x ∷ others
  pub at : IsRowAt constants todo d s.core x
  pub linked : AreLinked constants kernel limit u todo d s events (x ∷ others)

module _ (constants : List ℕ) (kernel : List (List ℕ)) (limit : ℕ) where
  -- as many events as the clock moves, and no more than the limit has
  pub steps_within : {todo : List Task} {s u : State} {log : List run.Event} → Steps constants kernel limit todo s log u → s.core.clock ≤ limit
      → s.core.clock + length log ≤ limit
  steps_within ended low = omega (arith, low)
  steps_within (goes {mark = mark} {s = s} {t = t} first cycle later) low =
      let clock : t.core.clock ≡ s.core.clock + 1 = cycle-clock constants kernel limit mark s t cycle in
      let early : s.core.clock < limit = cycle.before in
      let behind = steps_within later (omega (arith, clock, early)) in
      omega (arith, clock, behind)

module _ {constants : List ℕ} {kernel : List (List ℕ)} {limit : ℕ} where
  -- the state behind an event is the one before the next
  pub behind_is : {todo : List Task} {t u : State} {log : List run.Event} → Steps constants kernel limit todo t log u
      → seen_behind (visible_of u.core) (events_of constants kernel log) ≡ visible_of t.core
  behind_is ended = refl
  behind_is (goes first cycle later) = refl

  pub along : length constants ≡ number_of_constants → {todo : List Task} {s u : State} {log : List run.Event} → Steps constants kernel limit todo s log u
      → AreWholeTasks todo → IsWellFormed s → (d : Decoder) → Agrees todo d s.core → IsBounded d s.core.clock (events_of constants kernel log)
      → All (λ e. IsSmallCore e.core) log → IsSmallCore u.core
      → Filled constants kernel limit todo d s u (events_of constants kernel log) (fill (visible_of u.core) d (events_of constants kernel log))
  unfolding fill
  along len (ended {s = s}) w h d agrees bounded small last = record {
    x = row_of d (halted (visible_of s.core)) (visible_of s.core) [];
    others = [];
    are = refl;
    at = record { event = halted (visible_of s.core); next = visible_of s.core; later = []; row = refl; before = refl; comes = refl };
    linked = chains.ends (record { agrees = agrees; bounded = bounded; whole = h; small = last; row = refl });
  }
  along len (goes {task = task} {rest = rest} {todo = todo} {mark = mark} {s = s} {t = t} {u = u} {events = log} first cycle later)
      w h d agrees bounded small last =
      let n = next-whole constants len first w.0 h.core in
      let kept = cycle-kept constants kernel limit mark s t len cycle n.0 h in
      let e : Event = event_at constants kernel mark s in
      let clock : t.core.clock ≡ s.core.clock + 1 = cycle-clock constants kernel limit mark s t cycle in
      let next_agrees = agrees_next len first cycle n.0 h d (events_of constants kernel log) todo agrees in
      let r = along len later (whole-append rest todo n.1 w.1) kept (advance d e (events_of constants kernel log)) next_agrees
      (subst (λ k. IsBounded (advance d e (events_of constants kernel log)) k (events_of constants kernel log)) (sym clock) (bounded_next d e (events_of constants kernel log) s.core.clock bounded refl))
      (All-tail (λ x. IsSmallCore x.core) (event_of mark (advice_taken mark) s) log small) last in
      record {
        x = row_of d e (seen_behind (visible_of u.core) (events_of constants kernel log)) (events_of constants kernel log);
        others = r.x ∷ r.others;
        are = ap (λ rows. row_of d e (seen_behind (visible_of u.core) (events_of constants kernel log)) (events_of constants kernel log) ∷ rows) r.are;
        at = record {
          event = e;
          next = seen_behind (visible_of u.core) (events_of constants kernel log);
          later = events_of constants kernel log;
          row = refl;
          before = refl;
          comes = (mark, rest, first, n.0, refl);
        };
        linked = chains.goes (record {
          task = task;
          rest = rest;
          todo = todo;
          mark = mark;
          s = s;
          t = t;
          d = d;
          later = events_of constants kernel log;
          first = first;
          cycle = cycle;
          whole = n.0;
          before = h;
          behind = kept;
          agrees = agrees;
          agrees_behind = next_agrees;
          small = All-head (λ x. IsSmallCore x.core) (event_of mark (advice_taken mark) s) log small;
          bounded = bounded;
          row = ap (λ v. row_of d e v (events_of constants kernel log)) (behind_is later);
          next = r.at;
        }) r.linked;
      }

  -- a chain's rows are those of moments
  pub unlinked : {u : State} {todo : List Task} {d : Decoder} {s : State} {events : List Event} {rows : List (List ℕ)}
      → AreLinked constants kernel limit u todo d s events rows → AreMoments constants kernel limit (decoder_after d events) u rows
  unfolding decoder_after
  unlinked (chains.ends e) = moments.ends e
  unlinked (chains.goes m later) = moments.goes m (unlinked later)

  -- ---- by the number of a row

  pub moment_at : {d : Decoder} {u : State} (rows : List (List ℕ)) → AreMoments constants kernel limit d u rows → (i : ℕ) → suc i < length rows
      → IsMoment constants kernel limit (row_at rows i) (row_at rows (suc i))
  moment_at [] none i h = elim none [ ]
  moment_at (x ∷ []) (moments.ends e) i h = absurd (omega (arith, h))
  moment_at (x ∷ y ∷ rows) (moments.goes m later) zero h = m
  moment_at (x ∷ y ∷ rows) (moments.goes m later) (suc i) h = moment_at (y ∷ rows) later i (omega (arith, h))

  pub end_at : {d : Decoder} {u : State} (rows : List (List ℕ)) → AreMoments constants kernel limit d u rows → (i : ℕ) → suc i ≡ length rows
      → IsLastMoment d u (row_at rows i)
  end_at [] none i h = elim none [ ]
  end_at (x ∷ []) (moments.ends e) zero h = e
  end_at (x ∷ []) (moments.ends e) (suc i) h = absurd (omega (arith, h))
  end_at (x ∷ y ∷ rows) (moments.goes m later) zero h = absurd (omega (arith, h))
  end_at (x ∷ y ∷ rows) (moments.goes m later) (suc i) h = end_at (y ∷ rows) later i (omega (arith, h))
