-- HPERM's row and the row behind it show its permutation; other operations ask the hasher for nothing.
use Rattle.complete_rows.proofs.Words
use Words.{◌≡◌, ℕ, Bool, ◌+◌, ◌*◌, ◌<◌, ◌≤◌, true, false, List, [], length, take, reverse, slice_index, refl, sym, ap, ◌∙◌, subst, arith, append-nil}
use Words.{get_or-take, length-take-le, number_of_constants, prime, State, permuted, ◌⊞◌, length-permuted, is_ordinary_op, left_cells}
use Words.{seen_at, Item, Op, Seen, computed, s, w, Mark, Do, op_of_mark, counted, is_op, hasher_asked, twelve, perms_given, visible_of}
use Words.{Event, Visible, never, off, Decoder, next_after, witnesses_by, kind_of, operation_witnesses, perms_by_op}
use Words.ops
use Words.flags
use Rattle.std.proofs.lemmas.List.{length-reverse, reverse-reverse}
use Rattle.vm_table.specs.MainColumns as columns
use Rattle.complete_rows.proofs.AgreeLemmas.{kind_is}
use Rattle.complete_rows.proofs.BlockLemmas.{no_block, op_same}
use Rattle.complete_requests.proofs.HasherSteps.{asks}
use Rattle.complete_requests.proofs.Tops.{ShowsTops, twelve_are}

-- the state before it, and the state behind it
pub hperm_before : (x cells : List ℕ) → length cells ≡ 16 → ((j : ℕ) → j < 16 → s x j ≡ slice_index cells j) → twelve x ≡ reverse (take 12 cells)
hperm_before x cells size shows =
    twelve_are (take 12 cells) x (length-take-le 12 cells (omega (arith, size)))
    (λ j low. shows j (omega (arith, low)) ∙ sym (get_or-take 12 cells j 0 low))

pub hperm_behind : (sn : Seen) (y : List ℕ) → length sn.constants ≡ number_of_constants → length sn.cells ≡ 16 → ShowsTops ops.HPerm sn y
    → twelve y ≡ permuted sn.constants (reverse (take 12 sn.cells))
unfolding left_cells computed
hperm_behind sn y len size tops =
    let start : length (reverse (take 12 sn.cells)) ≡ 12
    = length-reverse (take 12 sn.cells) ∙ length-take-le 12 sn.cells (omega (arith, size)) in
    let count : length (reverse (permuted sn.constants (reverse (take 12 sn.cells)))) ≡ 12
    = length-reverse (permuted sn.constants (reverse (take 12 sn.cells))) ∙ length-permuted sn.constants (reverse (take 12 sn.cells)) len start in
    twelve_are (reverse (permuted sn.constants (reverse (take 12 sn.cells)))) y count
    (λ j low. tops j low ∙ ap (λ l. slice_index l j) (append-nil (reverse (permuted sn.constants (reverse (take 12 sn.cells))))))
    ∙ reverse-reverse (permuted sn.constants (reverse (take 12 sn.cells)))

pub hperm_asks : (constants : List ℕ) (next : ℕ) (seen : Visible) (x y v : List ℕ) → flags.op_of x ≡ ops.HPerm → w x 0 ≡ next → next + 7 < prime
    → twelve x ≡ reverse (take 12 seen.cells) → twelve y ≡ permuted constants (reverse (take 12 seen.cells))
    → counted (perms_given constants next (perms_by_op ops.HPerm seen)) v ≡ counted (hasher_asked x y) v
unfolding perms_given
hperm_asks constants next seen x y v is at low before behind =
    let place : next + 7 ≡ next ⊞ 7 = omega (arith, low) in
    sym (asks ops.HPerm x y v is ∙ rw (at, before, behind, ← place) refl)

no_perms : (op : Op) (seen : Visible) → is_op op ops.HPerm ≡ false → perms_by_op op seen ≡ []
no_perms ops.HPerm seen other = never other
no_perms op seen other = refl

-- an operation other than HPERM asks the hasher for nothing
pub no_hashes : (constants : List ℕ) (op : Op) (next : ℕ) (seen : Visible) (x y v : List ℕ) → flags.op_of x ≡ op → is_op op ops.HPerm ≡ false
    → is_ordinary_op op ≡ true → counted (perms_given constants next (perms_by_op op seen)) v ≡ counted (hasher_asked x y) v
unfolding perms_given
no_hashes constants op next seen x y v is other ordinary =
    let apart = no_block op ordinary in
    let none : counted (hasher_asked x y) v ≡ counted [] v
    = asks op x y v is ∙ rw (apart.start, apart.respan, apart.end, other) refl in
    ap (λ perms. counted (perms_given constants next perms) v) (no_perms op seen other) ∙ sym none

pub no_moves : (op : Op) (next : ℕ) (seen : Visible) → is_op op ops.HPerm ≡ false → next_after op next ≡ next + 8 * length (perms_by_op op seen)
no_moves op next seen other =
    let size : length (perms_by_op op seen) ≡ 0 = ap length (no_perms op seen other) in
    let stays : next_after op next ≡ next = rw other refl in
    omega (arith, size, stays)

-- ---- an operation of a span

abbrev Asks : List ℕ → Mark → Decoder → State → List ℕ → List ℕ → List ℕ → Type 0
Asks constants mark d s x y v =
    counted (perms_given constants d.next (perms_by_op (op_of_mark mark) (visible_of s.core))) v ≡ counted (hasher_asked x y) v

module _ (constants : List ℕ) (len : length constants ≡ number_of_constants) (x y v : List ℕ) where
  pub operation_given : (mark : Mark) (d : Decoder) (s : State) (e : Event) (n : Visible) (later : List Event) → e.op ≡ op_of_mark mark
      → flags.op_of x ≡ op_of_mark mark → d.next + 7 < prime → 16 ≤ length s.core.stack
      → ((j : ℕ) → j < 16 → columns.s x j ≡ slice_index (take 16 s.core.stack) j)
      → ((item : Item) → mark ≡ Do item → ShowsTops item.op (seen_at constants item s) y)
      → w x 0 ≡ slice_index (witnesses_by (kind_of e.op) d e n later) 0
      → is_ordinary_op (op_of_mark mark) ≡ true → Asks constants mark d s x y v
  unfolding operation_witnesses
  operation_given (Do item) d s e n later same op low deep cells tops witness is = go (is_op item.op ops.HPerm) refl
    where
      size : length (take 16 s.core.stack) ≡ 16
      size = length-take-le 16 s.core.stack deep

      first : e.op ≡ ops.HPerm → w x 0 ≡ d.next
      first hperm =
          witness ∙ ap (λ k. slice_index (witnesses_by k d e n later) 0) (kind_is e.op (ap is_ordinary_op same ∙ is))
          ∙ ap (λ o. slice_index (operation_witnesses o d.next d.unread.number e.before n) 0) hperm

      go : (b : Bool) → is_op item.op ops.HPerm ≡ b → Asks constants (Do item) d s x y v
      go true hperm =
          let e : item.op ≡ ops.HPerm = op_same item.op ops.HPerm hperm in
          ap (λ o. counted (perms_given constants d.next (perms_by_op o (visible_of s.core))) v) e
          ∙ hperm_asks constants d.next (visible_of s.core) x y v (op ∙ e) (first (same ∙ e)) low (hperm_before x (take 16 s.core.stack) size cells)
          (hperm_behind (seen_at constants item s) y len size (subst (λ o. ShowsTops o (seen_at constants item s) y) e (tops item refl)))
      go false other = no_hashes constants item.op d.next (visible_of s.core) x y v op other is
  operation_given mark d s e n later same op low deep cells tops witness is = off is

pub operation_moves : (op : Op) (next : ℕ) (seen : Visible) → next_after op next ≡ next + 8 * length (perms_by_op op seen)
operation_moves op next seen = go (is_op op ops.HPerm) refl
  where
    go : (b : Bool) → is_op op ops.HPerm ≡ b → next_after op next ≡ next + 8 * length (perms_by_op op seen)
    go true hperm = rw (op_same op ops.HPerm hperm) refl
    go false other = no_moves op next seen other
