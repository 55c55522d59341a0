-- Parts of a run one behind the other, and the run of a span.
use Rattle.sound_runs.proofs.Words.{ℕ, suc, List, [], ◌++◌, sym, subst, State, Item, Mark, Do, Respan, Part, batches_from, operations, read_operations, skip}
use Rattle.sound_runs.proofs.Words.{seq, seq-done, skip-done, eight, row_at, AreItems, item_at, AreBatches, HasBatchRows, Goes, ShowRun, ShowsMark}
use Rattle.op_pack.specs.Reading.{reading}

pub then_goes : (st : ℕ → State) (f g : Part) (i k : ℕ) {m : ℕ} → Goes st (f (st i)) k → Goes st (g (st k)) m → Goes st (seq f g (st i)) m
then_goes st f g i k {m} first second =
    record { events = first.events ++ second.events; done = seq-done f g (st i) (st k) (st m) first.events second.events first.done second.done }

nothing_goes : {st : ℕ → State} {i : ℕ} → Goes st (skip (st i)) i
nothing_goes {st} {i} = record { events = []; done = skip-done (st i) }

module _ {constants : List ℕ} {kernel : List (List ℕ)} {limit : ℕ} {rows : List (List ℕ)} {st : ℕ → State}
    (run : ShowRun constants kernel limit rows st) where
  items_go : {r e : ℕ} {items : List Item} → AreItems rows r e items → Goes st (operations constants kernel limit items (st r)) e
  items_go (AreItems.over q within no_item) = nothing_goes
  items_go (AreItems.next r p later within is rest) =
      then_goes st _ _ r (suc r) (run.goes r (Do (item_at rows r)) (ShowsMark.operation within is)) (items_go rest)

  reading_goes : {i e : ℕ} → HasBatchRows rows i e → Goes st (read_operations constants kernel limit (reading (eight (row_at rows i))) (st (suc i))) e
  reading_goes {i} {e} batch = subst (λ o. Goes st (read_operations constants kernel limit o (st (suc i))) e) (sym batch.reads) (items_go batch.are)

  pub batches_go : (begins : List ℕ → Mark) {i e : ℕ} {batches : List (List ℕ)} → AreBatches rows i e batches
      → ShowsMark rows st i (begins (eight (row_at rows i))) → Goes st (batches_from constants kernel limit begins batches (st i)) e
  batches_go begins (AreBatches.last i e batch ends) shows =
      then_goes st _ _ i (suc i) (run.goes i (begins (eight (row_at rows i))) shows) (then_goes st _ _ (suc i) e (reading_goes batch) nothing_goes)
  batches_go begins (AreBatches.more i r e later batch respan rest) shows =
      then_goes st _ _ i (suc i) (run.goes i (begins (eight (row_at rows i))) shows)
      (then_goes st _ _ (suc i) r (reading_goes batch) (batches_go Respan rest (ShowsMark.respan respan)))
