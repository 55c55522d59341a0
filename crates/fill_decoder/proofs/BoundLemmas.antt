-- The decoder's numbers stay small from event to event.
use Rattle.std.proofs.Common.{All, ◌≡◌, ℕ, zero, suc, ◌+◌, ◌*◌, ◌/◌, ◌<◌, ◌≤◌, Bool, true, false, cond, List, [], ◌∷◌, length, get_or, drop, take, sym, subst, arith}
use Rattle.std.proofs.lemmas.List.{length-drop, length-take}
use Rattle.std.proofs.lemmas.List.Elements.{All-cons, All-drop, All-head, All-nil}
use Rattle.vm_field.specs.Limits.{most_cycles}
use Rattle.vm_field.specs.Field.{prime}
use Rattle.op_pack.specs.Reading.{are_zero, positions_in_use}
use Rattle.vm_ops.specs.Codes.{kind_of}
use Rattle.vm_ops.specs.declared.kind.Kind.TheVariants as kinds
use Rattle.vm_ops.specs.declared.kind.Kind.{Kind}
use Rattle.vm_ops.specs.declared.op.Op.TheVariants as ops
use Rattle.air_kit.specs.Flags.{is_op}
use Rattle.machine_cycles.specs.declared.event.Event.{Event}
use Rattle.complete_rows.specs.Decoder.{Decoder, Open, address_of, advance, advance_by, at_start}
use Rattle.complete_rows.specs.Groups.{Unread, batch_begun, group_after}
use Rattle.complete_rows.specs.Turns.{respans, respans_by}
use Rattle.complete_rows.proofs.BoundLemmas.{few_respans, next_few}
use Rattle.fill_requests.proofs.LoopLemmas.{suffix}
use Rattle.fill_decoder.specs.Bounds.{HasRoom, IsSmall, ShowsElements}

-- ---- what is unread of a batch

in_use_by : (a b c : Bool) → cond a 1 (cond b 2 (cond c 4 8)) ≤ 8
in_use_by true b c = omega arith
in_use_by false true c = omega arith
in_use_by false false true = omega arith
in_use_by false false false = omega arith

begun_few : (batch : List ℕ) → length (batch_begun batch).positions ≤ 7
begun_few batch =
    let most : positions_in_use batch ≤ 8 = in_use_by (are_zero (drop 1 batch)) (are_zero (drop 2 batch)) (are_zero (drop 4 batch)) in
    omega (arith, most, length-drop 1 (take (positions_in_use batch) batch), length-take (positions_in_use batch) batch)

record AreFew (u : Unread) (count : ℕ) : Type 0 where
  left : length u.positions ≤ 7
  place : u.place ≤ count

after_few : (is_push : Bool) (number place : ℕ) (positions : List ℕ) (count : ℕ) → length positions ≤ 7 → place ≤ count
    → AreFew (group_after is_push number place positions) (count + 1)
after_few true number place positions count left low =
    record { left = omega (arith, left, length-drop 1 positions); place = omega (arith, low) }
after_few false zero place positions count left low = record { left = omega (arith, left, length-drop 1 positions); place = omega arith }
after_few false (suc number) place positions count left low = record { left = omega (arith, left); place = omega (arith, low) }

-- ---- one event

-- the parts of such bounds before an event of a kind
record Before (k : Kind) (d : Decoder) (e : Event) (later : List Event) (count : ℕ) : Type 0 where
  next : d.next ≤ 1 + 8 * (count + length (respans_by k e.hash (respans later)))
  ha : d.ha ≤ 1 + 8 * count
  blocks : All (λ b. b.address < prime) d.blocks
  left : length d.unread.positions ≤ 7
  place : d.unread.place ≤ count
  few : count + suc (length later) ≤ most_cycles

-- a block that starts at the next address
started : (d : Decoder) (hidden : List ℕ) → d.next < prime → All (λ b. b.address < prime) d.blocks
    → All (λ b. b.address < prime) (record { address = d.next; hidden = hidden } ∷ d.blocks)
started d hidden low h = All-cons (λ b. b.address < prime) (record { address = d.next; hidden = hidden }) d.blocks low h

by_kind : (k : Kind) (d : Decoder) (e : Event) (later : List Event) (count : ℕ) → Before k d e later count
    → IsSmall (advance_by k d e later) (count + 1) later
by_kind kinds.Ordinary d e later count b =
    let n = next_few (is_op e.op ops.HPerm) d.next (count + length (respans later)) b.next in
    let u = after_few (is_op e.op ops.Push) (d.unread.number / 128) d.unread.place d.unread.positions count b.left b.place in
    record {
      next = omega (arith, n);
      ha = omega (arith, b.ha);
      blocks = b.blocks;
      left = u.left;
      place = u.place;
      few = omega (arith, b.few);
    }
by_kind kinds.Join d e later count b = record {
  next = omega (arith, b.next);
  ha = omega (arith, b.ha);
  blocks = started d [] (omega (arith, b.next, b.few)) b.blocks;
  left = b.left;
  place = omega (arith, b.place);
  few = omega (arith, b.few);
}
by_kind kinds.Split d e later count b = record {
  next = omega (arith, b.next);
  ha = omega (arith, b.ha);
  blocks = started d [] (omega (arith, b.next, b.few)) b.blocks;
  left = b.left;
  place = omega (arith, b.place);
  few = omega (arith, b.few);
}
by_kind kinds.Loop d e later count b = record {
  next = omega (arith, b.next);
  ha = omega (arith, b.ha);
  blocks = started d [] (omega (arith, b.next, b.few)) b.blocks;
  left = b.left;
  place = omega (arith, b.place);
  few = omega (arith, b.few);
}
by_kind kinds.Span d e later count b = record {
  next = omega (arith, b.next);
  ha = omega (arith, b.next);
  blocks = started d [] (omega (arith, b.next, b.few)) b.blocks;
  left = begun_few e.hash;
  place = omega arith;
  few = omega (arith, b.few);
}
by_kind kinds.Call d e later count b = record {
  next = omega (arith, b.next);
  ha = omega (arith, b.ha);
  blocks = started d d.keys (omega (arith, b.next, b.few)) b.blocks;
  left = b.left;
  place = omega (arith, b.place);
  few = omega (arith, b.few);
}
by_kind kinds.Syscall d e later count b = record {
  next = omega (arith, b.next);
  ha = omega (arith, b.ha);
  blocks = started d d.keys (omega (arith, b.next, b.few)) b.blocks;
  left = b.left;
  place = omega (arith, b.place);
  few = omega (arith, b.few);
}
by_kind kinds.Dyn d e later count b = record {
  next = omega (arith, b.next);
  ha = omega (arith, b.ha);
  blocks = started d [] (omega (arith, b.next, b.few)) b.blocks;
  left = b.left;
  place = omega (arith, b.place);
  few = omega (arith, b.few);
}
by_kind kinds.End d e later count b = record {
  next = omega (arith, b.next);
  ha = omega arith;
  blocks = All-drop (λ b. b.address < prime) 1 d.blocks b.blocks;
  left = b.left;
  place = omega (arith, b.place);
  few = omega (arith, b.few);
}
by_kind kinds.Repeat d e later count b = record {
  next = omega (arith, b.next);
  ha = omega (arith, b.ha);
  blocks = b.blocks;
  left = b.left;
  place = omega (arith, b.place);
  few = omega (arith, b.few);
}
by_kind kinds.Respan d e later count b = record {
  next = omega (arith, b.next);
  ha = omega (arith, b.ha);
  blocks = b.blocks;
  left = begun_few e.hash;
  place = omega arith;
  few = omega (arith, b.few);
}
by_kind kinds.Halt d e later count b = record {
  next = omega (arith, b.next);
  ha = omega (arith, b.ha);
  blocks = b.blocks;
  left = b.left;
  place = omega (arith, b.place);
  few = omega (arith, b.few);
}

small_next : (d : Decoder) (e : Event) (later : List Event) (count : ℕ) → IsSmall d count (e ∷ later)
    → IsSmall (advance d e later) (count + 1) later
unfolding respans
small_next d e later count b =
    by_kind (kind_of e.op) d e later count (record {
      next = b.next;
      ha = b.ha;
      blocks = b.blocks;
      left = b.left;
      place = b.place;
      few = b.few;
    })

-- ---- along events

pub small_start : (deep : ℕ) (events : List Event) → length events ≤ most_cycles → IsSmall (at_start deep) 0 events
small_start deep events few = record {
  next = omega arith;
  ha = omega arith;
  blocks = All-nil (λ b. b.address < prime);
  left = omega arith;
  place = omega arith;
  few = omega (arith, few);
}

pub small_step : (d after : Decoder) (events : List Event) (i : ℕ) (e : Event) → i < length events → e ≡ get_or events i e
    → after ≡ advance d e (drop (i + 1) events) → IsSmall d i (drop i events) → IsSmall after (i + 1) (drop (i + 1) events)
small_step d after events i e within is moved small =
    let later = drop (i + 1) events in
    subst (λ b. IsSmall b (i + 1) later) (sym moved)
    (small_next d e later i (subst (IsSmall d i) (suffix events i e within is) small))

address_low : (blocks : List Open) → All (λ b. b.address < prime) blocks → address_of blocks < prime
address_low [] low = omega arith
address_low (block ∷ blocks) low = All-head (λ b. b.address < prime) block blocks low

pub small_shows : (d : Decoder) (count : ℕ) (later : List Event) → IsSmall d count later → ShowsElements d
small_shows d count later small =
    let next = small.next in
    let ha = small.ha in
    let left = small.left in
    let place = small.place in
    let few = small.few in
    let batches = few_respans later in
    record {
      next = omega (arith, next, few, batches);
      ha = omega (arith, ha, few);
      address = address_low d.blocks small.blocks;
      left = omega (arith, left);
      place = omega (arith, place, few);
    }

-- before no more later batches than there are events
pub small_room : (d : Decoder) (count batches : ℕ) (later : List Event) → IsSmall d count later → batches ≤ most_cycles → HasRoom d batches
small_room d count batches later small most =
    let next = small.next in
    let ha = small.ha in
    let place = small.place in
    let few = small.few in
    let respanned = few_respans later in
    record {
      next = omega (arith, next, few, respanned, most);
      ha = omega (arith, ha, few);
      place = omega (arith, place, few);
    }
