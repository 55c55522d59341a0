-- Addresses and keys stay within their bounds from cycle to cycle.
use Rattle.complete_rows.proofs.Words
use Words.{All, ◌≡◌, ℕ, zero, suc, ◌+◌, ◌*◌, ◌<◌, ◌≤◌, Bool, true, false, cond, List, [], ◌∷◌, length, drop, arith, All-cons, All-drop, All-head, All-nil}
use Words.{most_cycles, prime, AreElements, elements-cons, elements-drop, elements-none, shift_of, Shift, Left, Stay, Right, input_key, input_keys, is_op}
use Words.{Event, IsBounded, IsLowBlock, Open, Decoder, advance, advance_by, at_start, ends_call, ends_loop, hidden_of, keys_after, Kind, kind_of, respans}
use Words.{respans_by}
use Words.ops
use Words.kinds
use Rattle.air_kit.proofs.InputKeys.{input_key_low}

keys_low : (shift : Shift) (clock : ℕ) (keys : List ℕ) → clock < prime → AreElements keys → AreElements (keys_after shift clock keys)
keys_low Left clock keys low h = elements-drop 1 keys h
keys_low Stay clock keys low h = h
keys_low Right clock keys low h = elements-cons clock keys low h

pub next_few : (b : Bool) (next most : ℕ) → next ≤ 1 + 8 * most → cond b (next + 8) next ≤ 1 + 8 * (most + 1)
next_few true next most h = omega (arith, h)
next_few false next most h = omega (arith, h)

hidden_low : (blocks : List Open) → All IsLowBlock blocks → AreElements (hidden_of blocks)
hidden_low [] h = elements-none
hidden_low (block ∷ blocks) h = (All-head IsLowBlock block blocks h).hidden

keys_back : (a b : Bool) (first second third : List ℕ) → AreElements first → AreElements second → AreElements third
    → AreElements (cond a first (cond b second third))
keys_back true b first second third h g k = h
keys_back false true first second third h g k = g
keys_back false false first second third h g k = k

opened_low : (address : ℕ) (hidden : List ℕ) (blocks : List Open) → address < prime → AreElements hidden → All IsLowBlock blocks
    → All IsLowBlock (record { address = address; hidden = hidden } ∷ blocks)
opened_low address hidden blocks low h g =
    All-cons IsLowBlock (record { address = address; hidden = hidden }) blocks (record { address = low; hidden = h }) g

-- the parts of such bounds before an event of a kind
record Before (k : Kind) (d : Decoder) (e : Event) (later : List Event) (clock : ℕ) : Type 0 where
  next : d.next ≤ 1 + 8 * (clock + length (respans_by k e.hash (respans later)))
  ha : d.ha ≤ 1 + 8 * clock
  blocks : All IsLowBlock d.blocks
  keys : AreElements d.keys
  start : e.before.clock < prime
  whole : clock + suc (length later) ≤ most_cycles

-- a block of one permutation starts
opens : {k : Kind} {d : Decoder} {e : Event} {later : List Event} {clock : ℕ} (hidden keys : List ℕ) → Before k d e later clock
    → d.next ≤ 1 + 8 * clock → AreElements hidden → AreElements keys
    → IsBounded (record d { blocks = record { address = d.next; hidden = hidden } ∷ d.blocks; next = d.next + 8; keys = keys }) (clock + 1) later
opens {d = d} hidden keys b low h g = record {
  next = omega (arith, low);
  ha = omega (arith, b.ha);
  blocks = opened_low d.next hidden d.blocks (omega (arith, low, b.whole)) h b.blocks;
  keys = g;
  whole = omega (arith, b.whole);
}

by_kind : (k : Kind) (d : Decoder) (e : Event) (later : List Event) (clock : ℕ) → Before k d e later clock
    → IsBounded (advance_by k d e later) (clock + 1) later
by_kind kinds.Ordinary d e later clock b =
    let n = next_few (is_op e.op ops.HPerm) d.next (clock + length (respans later)) b.next in
    record {
      next = omega (arith, n);
      ha = omega (arith, b.ha);
      blocks = b.blocks;
      keys = keys_low (shift_of e.op) e.before.clock d.keys b.start b.keys;
      whole = omega (arith, b.whole);
    }
by_kind kinds.Join d e later clock b = opens [] d.keys b (omega (arith, b.next)) elements-none b.keys
by_kind kinds.Split d e later clock b = opens [] (drop 1 d.keys) b (omega (arith, b.next)) elements-none (elements-drop 1 d.keys b.keys)
by_kind kinds.Loop d e later clock b = opens [] (drop 1 d.keys) b (omega (arith, b.next)) elements-none (elements-drop 1 d.keys b.keys)
by_kind kinds.Span d e later clock b = record {
  next = omega (arith, b.next);
  ha = omega (arith, b.next);
  blocks = opened_low d.next [] d.blocks (omega (arith, b.next, b.whole)) (elements-none) b.blocks;
  keys = b.keys;
  whole = omega (arith, b.whole);
}
by_kind kinds.Call d e later clock b = opens d.keys [] b (omega (arith, b.next)) b.keys elements-none
by_kind kinds.Syscall d e later clock b = opens d.keys [] b (omega (arith, b.next)) b.keys elements-none
by_kind kinds.Dyn d e later clock b = opens [] d.keys b (omega (arith, b.next)) elements-none b.keys
by_kind kinds.End d e later clock b = record {
  next = omega (arith, b.next);
  ha = omega arith;
  blocks = All-drop IsLowBlock 1 d.blocks b.blocks;
  keys = keys_back (ends_loop e.hash) (ends_call e.hash) (drop 1 d.keys) (hidden_of d.blocks) d.keys (elements-drop 1 d.keys b.keys)
      (hidden_low d.blocks b.blocks) b.keys;
  whole = omega (arith, b.whole);
}
by_kind kinds.Repeat d e later clock b = record {
  next = omega (arith, b.next);
  ha = omega (arith, b.ha);
  blocks = b.blocks;
  keys = elements-drop 1 d.keys b.keys;
  whole = omega (arith, b.whole);
}
by_kind kind d e later clock b = record {
  next = omega (arith, b.next);
  ha = omega (arith, b.ha);
  blocks = b.blocks;
  keys = b.keys;
  whole = omega (arith, b.whole);
}

pub bounded_next : (d : Decoder) (e : Event) (later : List Event) (clock : ℕ) → IsBounded d clock (e ∷ later) → e.before.clock ≡ clock
    → IsBounded (advance d e later) (clock + 1) later
unfolding respans
bounded_next d e later clock b is =
    by_kind (kind_of e.op) d e later clock (record {
      next = b.next;
      ha = b.ha;
      blocks = b.blocks;
      keys = b.keys;
      start = omega (arith, is, b.whole);
      whole = b.whole;
    })

-- the keys of inputs are elements
inputs_low : (i n : ℕ) → AreElements (input_keys i n)
unfolding input_keys
inputs_low i zero = elements-none
inputs_low i (suc n) = elements-cons (input_key i) (input_keys (suc i) n) (input_key_low i) (inputs_low (suc i) n)

pub bounded_start : (deep : ℕ) (events : List Event) → length events ≤ most_cycles → IsBounded (at_start deep) 0 events
bounded_start deep events few = record {
  next = omega arith;
  ha = omega arith;
  blocks = All-nil IsLowBlock;
  keys = inputs_low 0 deep;
  whole = omega (arith, few);
}

-- a RESPAN is an event
by_respans : (k : Kind) (batch : List ℕ) (later : List (List ℕ)) (n : ℕ) → length later ≤ n → length (respans_by k batch later) ≤ suc n
by_respans kinds.Ordinary batch later n h = omega (arith, h)
by_respans kinds.Respan batch later n h = omega (arith, h)
by_respans kinds.Halt batch later n h = omega arith
by_respans k batch later n h = omega arith

pub few_respans : (events : List Event) → length (respans events) ≤ length events
unfolding respans
few_respans [] = omega arith
few_respans (e ∷ later) = by_respans (kind_of e.op) e.hash (respans later) (length later) (few_respans later)
