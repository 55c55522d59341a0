-- What follows along the chain of a run's rows.
use Rattle.complete_rows.proofs.Words
use Words.{◌≡◌, ℕ, List, [], ◌∷◌, slice_index, refl, ap, subst, Core, State, Mark, op_of_mark, Task, Closing, Next, closes, Event, Agrees, AreLinked, Decoder}
use Words.{decoder_after, kind_of, repeats_by}
use Words.chains
use Words.kinds
use Rattle.complete_rows.specs.Turns.{repeats}

close_ends : {constants : List ℕ} {digest : List ℕ} {c : Core} {mark : Mark} {rest : List Task} → Next constants (Closing digest) c mark rest
    → kind_of (op_of_mark mark) ≡ kinds.End
close_ends closes = refl

module _ {constants : List ℕ} {kernel : List (List ℕ)} {limit : ℕ} where
  -- a block that ends without a turn has none to come
  pub none_turned : {u : State} {todo : List Task} {d : Decoder} {s : State} {events : List Event} {rows : List (List ℕ)}
      → AreLinked constants kernel limit u todo d s events rows → (digest : List ℕ) (more : List Task) → todo ≡ Closing digest ∷ more
      → slice_index (repeats events) 0 ≡ 0
  unfolding repeats
  none_turned (chains.ends e) digest more is = cc
  none_turned (chains.goes m later) digest more is =
      let task : m.task ≡ Closing digest = cc in
      ap (λ k. slice_index (repeats_by k (repeats m.later)) 0)
      (close_ends (subst (λ t. Next constants t m.s.core m.mark m.rest) task m.first))

  -- at its end the tasks, the decoder and the state agree
  pub agrees_last : {u : State} {todo : List Task} {d : Decoder} {s : State} {events : List Event} {rows : List (List ℕ)}
      → AreLinked constants kernel limit u todo d s events rows → Agrees [] (decoder_after d events) u.core
  unfolding decoder_after
  agrees_last (chains.ends e) = e.agrees
  agrees_last (chains.goes m later) = agrees_last later
