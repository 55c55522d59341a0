-- The rows of a run ask on the buses of bitwise operations and of memory what its requests are.
use Rattle.complete_rows.proofs.Words
use Words.{◌≡◌, ℕ, List, length, map, ap, arith, number_of_constants, State, op_of_mark, Task, counted, over_rows, with_next, counted-none, bitwise_asked}
use Words.{memory_asked, access_given, bit_given, visible_of, Event, AreLinked, Decoder, accesses_by, accesses_of, bits_by, bits_of}
use Rattle.complete_requests.proofs.AccessRows.{row_accesses}
use Rattle.complete_requests.proofs.BitRows.{row_bits}
use Rattle.complete_rows.proofs.MomentFacts.{moment_event}
use Rattle.complete_requests.proofs.Following.{events_ask, map_counts}

module _ {constants : List ℕ} (len : length constants ≡ number_of_constants) {kernel : List (List ℕ)} {limit : ℕ} {u : State} (v : List ℕ)
    {todo : List Task} {d : Decoder} {s : State} {events : List Event} {rows : List (List ℕ)}
    (linked : AreLinked constants kernel limit u todo d s events rows) where
  pub bits_asked : over_rows (with_next bitwise_asked) rows v ≡ counted (map bit_given (bits_of events)) v
  unfolding bits_of
  bits_asked =
      events_ask bitwise_asked v (λ es. counted (map bit_given (bits_of es)) v) (counted-none v)
      (λ x y rows m later.
      let here = ap (λ l. counted l v) (row_bits len m) in
      let both = map_counts bit_given (bits_by (op_of_mark m.mark) (visible_of m.s.core)) (bits_of m.later) v in
      omega (arith, here, both)) linked

  pub accesses_asked : over_rows (with_next memory_asked) rows v ≡ counted (map access_given (accesses_of events)) v
  unfolding accesses_of
  accesses_asked =
      events_ask memory_asked v (λ es. counted (map access_given (accesses_of es)) v) (counted-none v)
      (λ x y rows m later.
      let here = ap (λ l. counted l v) (row_accesses len m) in
      let both = map_counts access_given (accesses_by (op_of_mark m.mark) (moment_event m)) (accesses_of m.later) v in
      omega (arith, here, both)) linked
