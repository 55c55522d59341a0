-- The step of an ordinary operation fills its row and the row behind it.
use Rattle.complete_rows.proofs.Words
use Words.{◌≡◌, ℕ, ◌+◌, ◌-◌, ◌^◌, ◌<◌, true, false, cond, List, [], ◌∷◌, length, take, drop, slice_index, refl, sym, ap, ap₂, ◌∙◌, subst, arith, lit<}
use Words.{get_or-take, number_of_constants, felt_inv, Core, State, IsWellFormed, word_at, zero_word, ◌⊟◌, accesses_memory, shift_of, performed, seen, Seen}
use Words.{Item, Op, Shift, Left, Stay, Right, depth, key, s, Do, advice_taken, effect_of, accessed, behind, IsCycle, behind-cycle, cycle-step, key_of}
use Words.{is_shift, visible_of, Event, Visible, never, off, Decoder, advance, advance_by, keys_after, line_of, row_of, cell, event_at, Shows}
use Words.kinds
use Rattle.vm_ops.specs.Items.{IsOrdinaryItem}
use Rattle.facts_steps.specs.Filling.{FillsRows, elsewhere_of}
use Rattle.facts_steps.proofs.Fills.{step_fills}
use Rattle.complete_rows.proofs.AgreeLemmas.{ordinary_advance}
use Rattle.complete_rows.proofs.ColumnLemmas.{col_depth, col_inv}
use Rattle.complete_rows.proofs.ShowLemmas.{shows_row}
use Rattle.complete_trace.proofs.Showing.{state_shown}
use Rattle.complete_trace.proofs.Witnessed.{accesses, limb_is, of_highest, of_same, of_zero, reads_word, rest_kept, witness_is, word_is}

-- ---- the keys behind an operation

key_right : (shift : Shift) (clock : ℕ) (keys : List ℕ) → is_shift Right shift ≡ true → key_of (keys_after shift clock keys) ≡ clock
key_right Right clock keys is = refl
key_right Left clock keys is = off is
key_right Stay clock keys is = off is

key_flat : (shift : Shift) (clock : ℕ) (keys : List ℕ) (n : ℕ) → length keys + 16 ≡ n → is_shift Left shift ≡ true → n ≡ 16
    → key_of (keys_after shift clock keys) ≡ key_of keys
key_flat Left clock [] n count is flat = refl
key_flat Left clock (k ∷ keys) n count is flat = absurd (omega (arith, count, flat))
key_flat Right clock keys n count is flat = off is
key_flat Stay clock keys n count is flat = off is

key_same : (shift : Shift) (clock : ℕ) (keys : List ℕ) → is_shift Left shift ≡ false → is_shift Right shift ≡ false
    → key_of (keys_after shift clock keys) ≡ key_of keys
key_same Stay clock keys no_left no_right = refl
key_same Left clock keys no_left no_right = never no_left
key_same Right clock keys no_left no_right = never no_right

-- ---- the word

module _ {constants : List ℕ} {kernel : List (List ℕ)} {limit : ℕ} {item : Item} {from to : State}
    (cycle : IsCycle constants kernel limit (Do item) from to) where
  -- the state behind the operation, but for the clock and the tape
  performed_is : behind (effect_of constants kernel (Do item) (take (advice_taken (Do item)) from.tape) from.core) from.core
      ≡ performed item.op (seen constants item (take (advice_taken (Do item)) from.tape) from.core) from.core
  performed_is =
      ap (λ r. behind r from.core) cycle.made
      ∙ (behind-cycle constants kernel (Do item) (take (advice_taken (Do item)) from.tape) from.core cycle.core cycle.made).1

  accessed_is : (c : Core) → accesses_memory item.op ≡ true
      → accessed (Do item) from.core c ≡ word_at c.memory from.core.context (slice_index from.core.stack 0)
  accessed_is c is = ap (λ b. cond b (word_at c.memory from.core.context (slice_index from.core.stack 0)) zero_word) is

  -- the event's word has the other elements of the word that was there
  word_rest : reads_word item.op
      → drop 1 (event_at constants kernel (Do item) from).word ≡ drop 1 (word_at from.core.memory from.core.context (slice_index from.core.stack 0))
  word_rest is =
      let v : Seen = seen constants item (take (advice_taken (Do item)) from.tape) from.core in
      ap (λ c. drop 1 (accessed (Do item) from.core c)) performed_is
      ∙ ap (drop 1) (accessed_is (performed item.op v from.core) (accesses item.op is))
      ∙ rest_kept item.op from.core v refl is

  word_size : IsWellFormed to → reads_word item.op
      → length (event_at constants kernel (Do item) from).word ≡ 4
  word_size h is =
      let after : behind (effect_of constants kernel (Do item) (take (advice_taken (Do item)) from.tape) from.core) from.core ≡ cycle.core
      = ap (λ r. behind r from.core) cycle.made in
      let memory : to.core.memory ≡ cycle.core.memory = ap (λ u. u.core.memory) cycle.now in
      ap (λ c. length (accessed (Do item) from.core c)) after
      ∙ ap length (accessed_is cycle.core (accesses item.op is))
      ∙ ap (λ m. length (word_at m from.core.context (slice_index from.core.stack 0))) (sym memory)
      ∙ (h.core.words from.core.context (slice_index from.core.stack 0)).size

  -- ---- both rows

  pub do_fills : (d : Decoder) (later : List Event) (y : List ℕ) (next : Op) → length constants ≡ number_of_constants
      → IsOrdinaryItem item → IsWellFormed from → IsWellFormed to
      → from.core.clock < 2 ^ 19 → length from.core.stack < 2 ^ 20 → length d.keys + 16 ≡ length from.core.stack
      → Shows next (advance d (event_at constants kernel (Do item) from) later) to.core y
      → FillsRows constants item (row_of d (event_at constants kernel (Do item) from) (visible_of to.core) later) y
      (elsewhere_of from) (elsewhere_of to)
  do_fills d later y next len o h g early few keyed sy =
      let e : Event = event_at constants kernel (Do item) from in
      let v : Visible = visible_of to.core in
      let x : List ℕ = row_of d e v later in
      let sx : Shows item.op d from.core x = shows_row d e v later from.core refl in
      let moved : Shows next (advance_by kinds.Ordinary d e later) to.core y
      = subst (λ z. Shows next z to.core y) (ordinary_advance d e later o.ordinary) sy in
      let deep : depth x ≡ length from.core.stack = sx.deep in
      let top : s x 0 ≡ cell e.before 0 = sx.cells 0 (lit< tt) ∙ sym (get_or-take 16 from.core.stack 0 0 (lit< tt)) in
      let second : s x 1 ≡ cell e.before 1 = sx.cells 1 (lit< tt) ∙ sym (get_or-take 16 from.core.stack 1 0 (lit< tt)) in
      let third : s x 2 ≡ cell e.before 2 = sx.cells 2 (lit< tt) ∙ sym (get_or-take 16 from.core.stack 2 0 (lit< tt)) in
      let left : s y 0 ≡ cell v 0 = moved.cells 0 (lit< tt) ∙ sym (get_or-take 16 to.core.stack 0 0 (lit< tt)) in
      let below : s y 1 ≡ cell v 1 = moved.cells 1 (lit< tt) ∙ sym (get_or-take 16 to.core.stack 1 0 (lit< tt)) in
      let keys : key y ≡ key_of (keys_after (shift_of item.op) from.core.clock d.keys) = moved.key_is in
      step_fills constants item from to x y len o h early few (cycle-step constants kernel limit item from to cycle)
      (state_shown from sx h.core.deep h.core.digest.size) (state_shown to moved g.core.deep g.core.digest.size)
      (record {
        deeper = col_inv (line_of d e v later) ∙ ap (λ n. felt_inv (n ⊟ 16)) (sym (col_depth (line_of d e v later)));
        not_zero = λ is. witness_is d e v later o.ordinary ∙ of_zero item.op d.next e.before v is ∙ ap felt_inv (sym top);
        not_same = λ is. witness_is d e v later o.ordinary ∙ of_same item.op d.next e.before v is
            ∙ ap₂ (λ a b. felt_inv (a ⊟ b)) (sym top) (sym second);
        not_highest = λ is. witness_is d e v later o.ordinary ∙ of_highest item.op d.next e.before v is
            ∙ ap (λ a. felt_inv (2 ^ 32 - 1 ⊟ a)) (sym left);
        limb = limb_is d e v later y (record { first = top; second = second; third = third; top = left; next = below });
        word = λ is. ap₂ (λ a b. drop 1 (word_at from.core.memory a b)) sx.context (sx.cells 0 (lit< tt)) ∙ sym (word_rest is)
            ∙ word_is d e v later (word_size g is) is;
        key_right = λ is. keys ∙ key_right (shift_of item.op) from.core.clock d.keys is ∙ sym sx.clock;
        key_flat = λ is flat. keys ∙ key_flat (shift_of item.op) from.core.clock d.keys (depth x) (keyed ∙ sym deep) is flat ∙ sym sx.key_is;
        key_same = λ no_left no_right. keys ∙ key_same (shift_of item.op) from.core.clock d.keys no_left no_right ∙ sym sx.key_is;
        block = moved.address ∙ sym sx.address;
      })
