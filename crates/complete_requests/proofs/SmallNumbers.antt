-- The operands and addresses that the rows of a run ask for have 32 bits: their operations trap otherwise.
use Rattle.complete_rows.proofs.Words
use Words.{All, ◌≡◌, ℕ, ◌^◌, ◌<◌, Bool, true, false, List, [], ◌∷◌, length, slice_index, None, refl, subst, arith, ltb-true, All-append, All-cons, All-nil}
use Words.{State, seen_at, Seen, Item, Op, stepped, Mark, Do, op_of_mark, IsCycle, Task, cycle-step, visible_of, Event, Visible, AreLinked, Decoder, event_at}
use Words.{access, accesses_by, accesses_of, bits_by, bits_of}
use Words.ops
use Words.chains
use Rattle.vm_ops.specs.Values.{address, cell, is_u32, trap_of, two_u32, unless}
use Rattle.vm_ops.specs.declared.cause.Cause.{Cause}
use Rattle.vm_ops.specs.declared.cause.Cause.TheVariants.{AddressRange}
use Rattle.vm_ops.proofs.ValueLemmas.{two_u32-fit}
use Rattle.complete_rows.specs.Limbs as shown
use Rattle.complete_rows.specs.Numbers.{HasU32Address, HasU32Operands}

-- ---- one operation

holds : (test : Bool) (cause : Cause) → unless test cause ≡ None → test ≡ true
holds true cause e = refl
holds false cause e = cc

address-fit : (sn : Seen) → address sn ≡ None → cell sn 0 < 2 ^ 32
address-fit sn e = ltb-true (cell sn 0) (2 ^ 32) (holds (is_u32 (cell sn 0)) AddressRange e)

operands_fit : (sn : Seen) (seen : Visible) (xor : Bool) → sn.cells ≡ seen.cells → two_u32 sn ≡ None
    → All HasU32Operands (record { xor = xor; a = shown.cell seen 0; b = shown.cell seen 1 } ∷ [])
operands_fit sn seen xor same free =
    let fit = two_u32-fit sn free in
    All-cons HasU32Operands (record { xor = xor; a = shown.cell seen 0; b = shown.cell seen 1 }) []
    (subst (λ cells. HasU32Operands (record { xor = xor; a = slice_index cells 0; b = slice_index cells 1 })) same (record { a = fit.0; b = fit.1 }))
    (All-nil HasU32Operands)

op_bits : (op : Op) (sn : Seen) (seen : Visible) → sn.cells ≡ seen.cells → trap_of op sn ≡ None → All HasU32Operands (bits_by op seen)
unfolding trap_of
op_bits ops.U32And sn seen same free = operands_fit sn seen false same free
op_bits ops.U32Xor sn seen same free = operands_fit sn seen true same free
op_bits op sn seen same free = All-nil HasU32Operands

address_fits : (sn : Seen) (e : Event) (kind : ℕ) → sn.cells ≡ e.before.cells → address sn ≡ None → All HasU32Address (access kind e)
address_fits sn e kind same free =
    All-cons HasU32Address (record { kind = kind; ctx = e.before.context; addr = shown.cell e.before 0; clk = e.before.clock; word = e.word }) []
    (subst (λ cells. slice_index cells 0 < 2 ^ 32) same (address-fit sn free)) (All-nil HasU32Address)

op_accesses : (op : Op) (sn : Seen) (e : Event) → sn.cells ≡ e.before.cells → trap_of op sn ≡ None → All HasU32Address (accesses_by op e)
unfolding trap_of
op_accesses ops.MLoad sn e same free = address_fits sn e 0 same free
op_accesses ops.MLoadW sn e same free = address_fits sn e 0 same free
op_accesses ops.MStore sn e same free = address_fits sn e 2 same free
op_accesses ops.MStoreW sn e same free = address_fits sn e 1 same free
op_accesses op sn e same free = All-nil HasU32Address

-- ---- along a run

module _ (constants : List ℕ) (kernel : List (List ℕ)) (limit : ℕ) where
  free_of : (item : Item) (s t : State) → IsCycle constants kernel limit (Do item) s t → trap_of item.op (seen_at constants item s) ≡ None
  free_of item s t cycle = (stepped constants item s t (cycle-step constants kernel limit item s t cycle)).free

  mark_bits : (mark : Mark) (s t : State) → IsCycle constants kernel limit mark s t → All HasU32Operands (bits_by (op_of_mark mark) (visible_of s.core))
  mark_bits (Do item) s t cycle = op_bits item.op (seen_at constants item s) (visible_of s.core) refl (free_of item s t cycle)
  mark_bits mark s t cycle = All-nil HasU32Operands

  mark_accesses : (mark : Mark) (s t : State) → IsCycle constants kernel limit mark s t
      → All HasU32Address (accesses_by (op_of_mark mark) (event_at constants kernel mark s))
  mark_accesses (Do item) s t cycle =
      op_accesses item.op (seen_at constants item s) (event_at constants kernel (Do item) s) refl (free_of item s t cycle)
  mark_accesses mark s t cycle = All-nil HasU32Address

  module _ (u : State) where
    pub bits_fit : {todo : List Task} {d : Decoder} {s : State} {events : List Event} {rows : List (List ℕ)}
        → AreLinked constants kernel limit u todo d s events rows → All HasU32Operands (bits_of events)
    unfolding bits_of
    bits_fit (chains.ends e) = All-nil HasU32Operands
    bits_fit (chains.goes m later) =
        All-append HasU32Operands (bits_by (op_of_mark m.mark) (visible_of m.s.core)) (bits_of m.later) (mark_bits m.mark m.s m.t m.cycle) (bits_fit later)

    pub addresses_fit : {todo : List Task} {d : Decoder} {s : State} {events : List Event} {rows : List (List ℕ)}
        → AreLinked constants kernel limit u todo d s events rows → All HasU32Address (accesses_of events)
    unfolding accesses_of
    addresses_fit (chains.ends e) = All-nil HasU32Address
    addresses_fit (chains.goes m later) =
        All-append HasU32Address (accesses_by (op_of_mark m.mark) (event_at constants kernel m.mark m.s)) (accesses_of m.later)
        (mark_accesses m.mark m.s m.t m.cycle) (addresses_fit later)

    -- a stack is no deeper than cycles and the cells that it begins with
    pub depths_fit : {todo : List Task} {d : Decoder} {s : State} {events : List Event} {rows : List (List ℕ)}
        → AreLinked constants kernel limit u todo d s events rows → All (λ e. e.before.depth < 2 ^ 32) events
    depths_fit (chains.ends e) = All-nil (λ e. e.before.depth < 2 ^ 32)
    depths_fit (chains.goes m later) =
        All-cons (λ e. e.before.depth < 2 ^ 32) (event_at constants kernel m.mark m.s) m.later
        (let depth = m.small.depth in let whole = m.bounded.whole in omega (arith, depth, whole)) (depths_fit later)

    pub depth_fits : {todo : List Task} {d : Decoder} {s : State} {events : List Event} {rows : List (List ℕ)}
        → AreLinked constants kernel limit u todo d s events rows → length u.core.stack < 2 ^ 32
    depth_fits (chains.ends e) = let depth = e.small.depth in let whole = e.bounded.whole in omega (arith, depth, whole)
    depth_fits (chains.goes m later) = depth_fits later
