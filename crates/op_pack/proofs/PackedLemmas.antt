-- Packed operations are batches: eight elements each, and at least one.
use Rattle.std.proofs.Common.{◌≡◌, ◌≢◌, ℕ, zero, suc, ◌-◌, ◌^◌, ◌<◌, ◌≤◌, Bool, true, false, cond, List, [], ◌∷◌, length, replicate, unwrap_or, arith, lit<}
use Rattle.std.proofs.Math.Nat.{one-le-pow}
use Rattle.std.proofs.lemmas.List.{length-append, length-replicate}
use Rattle.std.proofs.lemmas.List.Elements.{All-cons, All-nil}
use Rattle.std.specs.List.{All}
use Rattle.op_pack.proofs.BatchLemmas.{each-all, each-first, length-placed}
use Rattle.op_pack.proofs.PackLemmas.{fits-inv, packed-next, placed-along}
use Rattle.op_pack.proofs.PlaceLemmas.{below_next}
use Rattle.op_pack.proofs.RoundTripLemmas.{Each}
use Rattle.op_pack.specs.Packing.{IsPackable, Placed, has_immediate, with_immediate, put, new_group, placed, first_placed, zeros_behind, batch_of, batches_within, packed}
use Rattle.op_pack.specs.Reading.{IsBatch}
use Rattle.vm_field.specs.Field.{prime, AreElements}
use Rattle.vm_field.proofs.Elements.{elements-append, elements-cons, elements-none, elements-replicate}
use Rattle.vm_ops.proofs.CodeLemmas.{code_of-below}
use Rattle.vm_ops.proofs.RunLemmas.{immediate-below}
use Rattle.vm_ops.specs.Codes.{code_of}
use Rattle.vm_ops.specs.declared.item.Item.{Item}
use Rattle.vm_ops.specs.Items.{IsPackableItem}

-- a group's number, and elements behind it
record IsSmall (room : ℕ) (p : Placed) : Type 0 where
  number : p.number < 128 ^ room
  positions : AreElements p.positions

elements-with_immediate : (item : Item) (positions : List ℕ) → IsPackableItem item → AreElements positions
    → AreElements (with_immediate item positions)
elements-with_immediate item positions h below = go (has_immediate item)
  where
    go : (has : Bool) → AreElements (cond has (unwrap_or item.imm 0 ∷ positions) positions)
    go true = elements-cons (unwrap_or item.imm 0) positions (immediate-below item h.ordinary) below
    go false = below

small-put : (room : ℕ) (item : Item) (p : Placed) → 0 < room → IsPackableItem item → IsSmall (room - 1) p → IsSmall room (put item p)
small-put room item p some h small = record {
  number = below_next room (code_of item.op) p.number some (code_of-below item.op) small.number;
  positions = elements-with_immediate item p.positions h small.positions;
}

group-below : (number : ℕ) → number < 128 ^ 9 → number < prime
group-below number h = omega arith

small-group : (room : ℕ) (p : Placed) → IsSmall 9 p → IsSmall room (new_group p)
small-group room p small = record {
  number = one-le-pow room 128 (lit< tt);
  positions = elements-cons p.number p.positions (group-below p.number small.number) small.positions;
}

small-placed : (items : List Item) (room free : ℕ) → Each items → IsSmall room (placed room free items)
small-placed items room free = placed-along (λ room free items p. Each items → IsSmall room p)
    (λ room free items each. record { number = one-le-pow room 128 (lit< tt); positions = elements-none })
    (λ room free item items p e h each. small-put room item p (fits-inv room free item e).0 each.0 (h each.1))
    (λ room free item items p e h each. small-group room _ (small-put 9 item p (lit< tt) each.0 (h each.1))) items room free

batch_of-IsBatch : (p : Placed) → length p.positions ≤ 7 → IsSmall 9 p → IsBatch (batch_of p)
batch_of-IsBatch p few small = record {
  size = (let count : length (zeros_behind 7 p.positions) ≡ 7 = rw (length-append, length-replicate) (omega arith) in omega arith);
  below = elements-cons p.number (zeros_behind 7 p.positions) (group-below p.number small.number)
      (elements-append p.positions (replicate (7 - length p.positions) 0) small.positions (elements-replicate (7 - length p.positions)));
}

first-IsBatch : (items : List Item) → Each items → IsBatch (batch_of (first_placed items))
unfolding first_placed
first-IsBatch items each = batch_of-IsBatch (placed 9 7 items) (length-placed items 9 7) (small-placed items 9 7 each)

batches-IsBatch : (n : ℕ) (items : List Item) → Each items → All IsBatch (batches_within n items)
batches-IsBatch zero items each = All-nil IsBatch
batches-IsBatch (suc n) [] each = All-nil IsBatch
batches-IsBatch (suc n) (item ∷ items) each =
    All-cons IsBatch (batch_of (first_placed (item ∷ items))) (batches_within n (first_placed (item ∷ items)).rest)
    (first-IsBatch (item ∷ items) each) (batches-IsBatch n (first_placed (item ∷ items)).rest (each-first (item ∷ items) each))

pub packed-IsBatch : (items : List Item) → IsPackable items → All IsBatch (packed items)
unfolding packed
packed-IsBatch items h = batches-IsBatch (length items) items (each-all items h.each)

pub packed-some : (items : List Item) → items ≢ [] → packed items ≢ []
packed-some items some none = let next = packed-next items some in cc
