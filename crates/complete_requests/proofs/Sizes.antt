-- How many requests a run has: each cycle asks for one permutation, bitwise operation or access at most, where a span's further batches
-- are asked for by their RESPANs.
use Rattle.complete_rows.proofs.Words
use Words.{◌≡◌, ℕ, ◌+◌, ◌≤◌, false, List, [], ◌∷◌, length, arith, length-append, most_cycles, most_inputs, State, begun, Op, Task, Event, Visible}
use Words.{AreLinked, Decoder, decoder_after, Kind, kind_of, accesses_by, accesses_of, bits_by, bits_of, hash_perms, perms_by, perms_by_op, perms_of, respans}
use Words.{respans_by}
use Words.ops
use Words.chains
use Words.kinds
use Rattle.complete_requests.proofs.Chains.{length_chain}

-- a cycle's own permutations
abbrev own : Kind → ℕ → ℕ
own kinds.Ordinary n = n
own kind n = 1

few_by : (op : Op) (seen : Visible) (e : Event)
    → own (kind_of op) (length (perms_by_op op seen)) + length (bits_by op seen) + length (accesses_by op e) ≤ 1
few_by ops.HPerm seen e = omega arith
few_by op seen e = omega arith

one_chain : (constants : List ℕ) (domain : ℕ) (block : List ℕ) (n : ℕ)
    → length (hash_perms constants domain (block ∷ [])) + 0 ≤ n + 1
one_chain constants domain block n = let size = length_chain constants (begun domain) false (block ∷ []) in omega (arith, size)

perms_few : (constants : List ℕ) (k : Kind) (e : Event) (later : List Event)
    → length (perms_by k constants e later) + length (respans_by k e.hash (respans later))
    ≤ length (respans later) + own k (length (perms_by_op e.op e.before))
perms_few constants kinds.Ordinary e later = omega arith
perms_few constants kinds.Span e later =
    let size = length_chain constants (begun 0) false (e.hash ∷ respans later) in omega (arith, size)
perms_few constants kinds.End e later = omega arith
perms_few constants kinds.Repeat e later = omega arith
perms_few constants kinds.Respan e later = omega arith
perms_few constants kinds.Halt e later = omega arith
perms_few constants kind e later = one_chain constants _ e.hash (length (respans later))

pub requests_few : (constants : List ℕ) (events : List Event)
    → length (perms_of constants events) + length (bits_of events) + length (accesses_of events) + length (respans events) ≤ length events
unfolding perms_of bits_of accesses_of respans
requests_few constants [] = omega arith
requests_few constants (e ∷ later) =
    let rest = requests_few constants later in
    let few = few_by e.op e.before e in
    let perms = perms_few constants (kind_of e.op) e later in
    let a = length-append (perms_by (kind_of e.op) constants e later) (perms_of constants later) in
    let b = length-append (bits_by e.op e.before) (bits_of later) in
    let c = length-append (accesses_by e.op e) (accesses_of later) in
    omega (arith, rest, few, perms, a, b, c)

module _ {constants : List ℕ} {kernel : List (List ℕ)} {limit : ℕ} {u : State} where
  pub rows_are : {todo : List Task} {d : Decoder} {s : State} {events : List Event} {rows : List (List ℕ)}
      → AreLinked constants kernel limit u todo d s events rows → length rows ≡ length events + 1
  rows_are (chains.ends e) = omega arith
  rows_are (chains.goes m later) = let size = rows_are later in omega (arith, size)

  pub events_few : {todo : List Task} {d : Decoder} {s : State} {events : List Event} {rows : List (List ℕ)}
      → AreLinked constants kernel limit u todo d s events rows → length events ≤ most_cycles
  events_few (chains.ends e) = omega arith
  events_few (chains.goes m later) = let whole = m.bounded.whole in omega (arith, whole)

  pub keys_few : {todo : List Task} {d : Decoder} {s : State} {events : List Event} {rows : List (List ℕ)}
      → AreLinked constants kernel limit u todo d s events rows → length (decoder_after d events).keys + 16 ≤ most_cycles + most_inputs
  unfolding decoder_after
  keys_few (chains.ends e) =
      omega (arith, e.agrees.keyed, e.small.depth, e.bounded.whole)
  keys_few (chains.goes m later) = keys_few later
