-- How the cells below the sixteenth and their keys move.
use Rattle.complete_rows.proofs.Words
use Words.{if◌then◌else◌, ◌≡◌, ℕ, ◌+◌, ◌≤◌, false, cond, eqb, ◌||◌, ◌&&◌, ◌==◌, List, [], ◌∷◌, length, drop, slice_index, refl, sym, ap, ◌∙◌, arith, ne_eqb}
use Words.{drop-drop, get_or-drop, filled_up, Op, drop-filled_up, index-filled_up, clk, depth, h, key, s, Counted, counted, once, counted-none, counted-append}
use Words.{cell_tuples, key_of, is_left, is_op, is_right, overflow_asked, overflow_given}
use Words.ops
use Words.flags
use Rattle.complete_requests.proofs.Chains.{hit}

-- ---- the tuples of cells

pub no_tuples : (cells v : List ℕ) → counted (cell_tuples [] cells) v ≡ 0
unfolding cell_tuples
no_tuples cells v = counted-none v

pub one_tuple : (k : ℕ) (keys cells v : List ℕ)
    → counted (cell_tuples (k ∷ keys) cells) v ≡ hit (k ∷ slice_index cells 0 ∷ key_of keys ∷ []) v + counted (cell_tuples keys (drop 1 cells)) v
unfolding cell_tuples
one_tuple k keys cells v = counted-append (once (k ∷ slice_index cells 0 ∷ key_of keys ∷ []) ∷ []) (cell_tuples keys (drop 1 cells)) v

pub no_keys : (keys stack : List ℕ) → length keys + 16 ≡ length stack → length stack ≤ 16 → keys ≡ []
no_keys [] stack keyed flat = refl
no_keys (k ∷ keys) stack keyed flat = absurd (omega (arith, keyed, flat))

-- ---- what rows give and ask

pub given_by : (op : Op) (x y v : List ℕ) → flags.op_of x ≡ op
    → counted (overflow_given x y) v ≡ counted (cond (is_right op) (once (clk x ∷ s x 15 ∷ key x ∷ []) ∷ []) []) v
unfolding overflow_given
given_by op x y v is = ap (λ o. counted (cond (is_right o) (once (clk x ∷ s x 15 ∷ key x ∷ []) ∷ []) []) v) is

-- the tuple of a row with one cell fewer behind it
abbrev pub taken_cell : ℕ → ℕ → ℕ → ℕ → List Counted
taken_cell deep k cell below = if deep == 16 then [] else once (k ∷ cell ∷ below ∷ []) ∷ []

pub asked_by : (op : Op) (x y v : List ℕ) → flags.op_of x ≡ op
    → counted (overflow_asked x y) v
    ≡ counted (cond (is_left op || (is_op op ops.End && eqb (h x 4) 1)) (taken_cell (depth x) (key x) (s y 15) (key y)) []) v
unfolding overflow_asked
asked_by op x y v is =
    ap (λ o. counted (cond (is_left o || (is_op o ops.End && eqb (h x 4) 1)) (taken_cell (depth x) (key x) (s y 15) (key y)) []) v) is

-- ---- the stack

-- one cell fewer: what stood below it moves up
pub record IsPopped (stack after : List ℕ) : Type 0 where
  pub below : drop 16 after ≡ drop 1 (drop 16 stack)
  pub last : slice_index after 15 ≡ slice_index (drop 16 stack) 0

pub popped_cells : (stack after : List ℕ) → after ≡ filled_up (drop 1 stack) → IsPopped stack after
popped_cells stack after is = record {
  below = ap (drop 16) is ∙ drop-filled_up (drop 1 stack) ∙ drop-drop 16 1 stack ∙ sym (drop-drop 1 16 stack);
  last = ap (λ l. slice_index l 15) is ∙ index-filled_up (drop 1 stack) 15 ∙ get_or-drop 1 stack 15 0 ∙ sym (get_or-drop 16 stack 0 0);
}

-- the keys move up with the cells
pub pops : (keys stack after : List ℕ) (deep k cell below : ℕ) (v : List ℕ) → length keys + 16 ≡ length stack → IsPopped stack after
    → deep ≡ length stack → k ≡ key_of keys → cell ≡ slice_index after 15 → below ≡ key_of (drop 1 keys)
    → counted (cell_tuples keys (drop 16 stack)) v
    ≡ counted (taken_cell deep k cell below) v + counted (cell_tuples (drop 1 keys) (drop 16 after)) v
pops [] stack after deep k cell below v keyed p is key_is cell_is below_is =
    let flat : deep ≡ 16 = omega (arith, is, keyed) in
    let asked : counted (taken_cell deep k cell below) v ≡ counted [] v = rw flat refl in
    let none = counted-none v in
    let before = no_tuples (drop 16 stack) v in
    let behind = no_tuples (drop 16 after) v in
    omega (arith, asked, none, before, behind)
pops (first ∷ keys) stack after deep k cell below v keyed p is key_is cell_is below_is =
    let other : eqb deep 16 ≡ false = ne_eqb deep 16 (λ z. omega (arith, z, is, keyed)) in
    let tuple : counted (taken_cell deep k cell below) v ≡ hit (first ∷ slice_index (drop 16 stack) 0 ∷ key_of keys ∷ []) v
    = rw (other, key_is, cell_is, p.last, below_is) refl in
    let before = one_tuple first keys (drop 16 stack) v in
    let behind : counted (cell_tuples keys (drop 16 after)) v ≡ counted (cell_tuples keys (drop 1 (drop 16 stack))) v
    = ap (λ l. counted (cell_tuples keys l) v) p.below in
    omega (arith, tuple, before, behind)

-- one cell more
pub pushes : (keys stack after : List ℕ) (clock k cell : ℕ) (v : List ℕ) → drop 16 after ≡ slice_index stack 15 ∷ drop 16 stack
    → k ≡ key_of keys → cell ≡ slice_index stack 15
    → counted (cell_tuples (clock ∷ keys) (drop 16 after)) v ≡ hit (clock ∷ cell ∷ k ∷ []) v + counted (cell_tuples keys (drop 16 stack)) v
pushes keys stack after clock k cell v moved key_is cell_is =
    ap (λ l. counted (cell_tuples (clock ∷ keys) l) v) moved ∙ one_tuple clock keys (slice_index stack 15 ∷ drop 16 stack) v
    ∙ rw (key_is, cell_is) refl
