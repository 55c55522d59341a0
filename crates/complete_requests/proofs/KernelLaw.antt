-- The rows of a run ask on the kernel's bus the digests that its syscalls call.
use Rattle.complete_rows.proofs.Words
use Words.{if◌then◌else◌, ◌≡◌, ℕ, ◌+◌, Bool, true, false, List, [], ◌∷◌, ◌++◌, map, take, refl, ap, ◌∙◌, arith, State, is_ordinary_op, Op}
use Words.{hash_of, op_of_mark, Task, Counted, counted, once, over_rows, with_next, counted-none, counted-append, is_op, front}
use Words.{Event, AreLinked, Decoder, IsMoment, calls_of}
use Words.ops
use Rattle.air_kit.specs.MainTuples.{kernel_asked}
use Rattle.complete_rows.proofs.BlockLemmas.{op_same}
use Rattle.complete_requests.proofs.Following.{events_ask}
use Rattle.complete_requests.proofs.MomentCells.{moment_cells}

syscall_opens : (op : Op) → is_op op ops.Syscall ≡ true → is_ordinary_op op ≡ false
syscall_opens op is = rw (op_same op ops.Syscall is) refl

abbrev called : Bool → List ℕ → List (List ℕ)
called b word = if b then word ∷ [] else []

abbrev asks : Bool → List ℕ → List Counted
asks b word = if b then once word ∷ [] else []

asks_called : (b : Bool) (word digest : List ℕ) (v : List ℕ) → (b ≡ true → word ≡ digest)
    → counted (asks b word) v ≡ counted (map once (called b digest)) v
asks_called true word digest v is = ap (λ w. counted (once w ∷ []) v) (is refl)
asks_called false word digest v is = refl

map_called : (b : Bool) (word : List ℕ) (words : List (List ℕ)) (v : List ℕ)
    → counted (map once (called b word ++ words)) v ≡ counted (map once (called b word)) v + counted (map once words) v
map_called true word words v = counted-append (once word ∷ []) (map once words) v
map_called false word words v = let none = counted-none v in omega (arith, none)

module _ {constants : List ℕ} {kernel : List (List ℕ)} {limit : ℕ} (v : List ℕ) where
  row_calls : {x y : List ℕ} (m : IsMoment constants kernel limit x y)
      → counted (kernel_asked x y) v ≡ counted (map once (called (is_op (op_of_mark m.mark) ops.Syscall) (take 4 (hash_of m.mark)))) v
  unfolding kernel_asked
  row_calls {x = x} m =
      let cells = moment_cells m in
      ap (λ o. counted (asks (is_op o ops.Syscall) (front x)) v) cells.op
      ∙ asks_called (is_op (op_of_mark m.mark) ops.Syscall) (front x) (take 4 (hash_of m.mark)) v
      (λ is. ap (take 4) (cells.eight (syscall_opens (op_of_mark m.mark) is)))

  pub calls_asked : {u : State} {todo : List Task} {d : Decoder} {s : State} {events : List Event} {rows : List (List ℕ)}
      → AreLinked constants kernel limit u todo d s events rows
      → over_rows (with_next kernel_asked) rows v ≡ counted (map once (calls_of events)) v
  unfolding calls_of
  calls_asked linked =
      events_ask kernel_asked v (λ events. counted (map once (calls_of events)) v) (counted-none v)
      (λ x y rows m later.
      let here = row_calls m in
      let both = map_called (is_op (op_of_mark m.mark) ops.Syscall) (take 4 (hash_of m.mark)) (calls_of m.later) v in
      omega (arith, here, both)) linked
