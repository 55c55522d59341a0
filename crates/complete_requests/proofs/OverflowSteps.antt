-- What a cycle gives and was owed of overflow is what it asks and what is owed behind it.
use Rattle.complete_rows.proofs.Words
use Words.{◌≡◌, ℕ, ◌+◌, ◌≤◌, ◌||◌, true, false, cond, eqb, List, [], ◌∷◌, ◌++◌, length, drop, slice_index, refl, sym, ap, ap₂, ◌∙◌, arith, drop-drop, Core}
use Words.{filled_up, is_ordinary_op, shift_of, ShiftedBelow, Op, Shift, Left, Stay, Right, clk, depth, h, key, s, Mark, hash_of, op_of_mark, Task, Block}
use Words.{Returning, Leaving, counted, counted-none, cell_tuples, key_of, is_left, is_op, is_right, is_shift, eight, overflow_asked}
use Words.{overflow_given, Decoder, Open, hidden_of, keys_after, keys_behind}
use Words.ops
use Words.flags
use Rattle.std.proofs.lemmas.List.{drop_at}
use Rattle.complete_rows.proofs.AgreeLemmas.{end_keys, has_flags}
use Rattle.complete_requests.proofs.Chains.{hit}
use Rattle.complete_requests.proofs.OverflowCells.{asked_by, no_tuples, given_by, no_keys, popped_cells, pops, pushes, taken_cell}

-- the cells that calls hide
abbrev pub hidden : List Task → List Open → List ℕ → ℕ
hidden [] blocks v = 0
hidden (Block tree ∷ todo) blocks v = hidden todo blocks v
hidden (Returning digest frame ∷ todo) blocks v = counted (cell_tuples (hidden_of blocks) frame.hidden) v + hidden todo (drop 1 blocks) v
hidden (Leaving digest frame ∷ todo) blocks v = counted (cell_tuples (hidden_of blocks) frame.hidden) v + hidden todo (drop 1 blocks) v
hidden (task ∷ todo) blocks v = hidden todo (drop 1 blocks) v

-- what is still to be asked: the cells below the sixteenth, and those that calls hide
abbrev pub owed_cells : List ℕ → List Task → Decoder → List ℕ → ℕ
owed_cells v todo d stack = counted (cell_tuples d.keys (drop 16 stack)) v + hidden todo d.blocks v

-- what a row and the row behind it show of cells
pub record StackCells (mark : Mark) (c : Core) (stack : List ℕ) (d after : Decoder) (x y : List ℕ) : Type 0 where
  pub op : flags.op_of x ≡ op_of_mark mark
  pub clock : clk x ≡ c.clock
  pub last : s x 15 ≡ slice_index c.stack 15
  pub deep : depth x ≡ length c.stack
  pub key_is : key x ≡ key_of d.keys
  pub behind : s y 15 ≡ slice_index stack 15
  pub key_behind : key y ≡ key_of after.keys
  pub eight : is_ordinary_op (op_of_mark mark) ≡ false → eight x ≡ hash_of mark

module _ (x y v : List ℕ) where
  pub none_given : {op : Op} → flags.op_of x ≡ op → is_right op ≡ false → counted (overflow_given x y) v ≡ 0
  none_given {op = op} is stays = given_by op x y v is ∙ rw stays (counted-none v)

  none_asked : {op : Op} → flags.op_of x ≡ op → is_left op ≡ false → is_op op ops.End ≡ false → counted (overflow_asked x y) v ≡ 0
  none_asked {op = op} is stays other = asked_by op x y v is ∙ rw (stays, other) (counted-none v)

  end_keeps : flags.op_of x ≡ ops.End → h x 4 ≡ 0 → counted (overflow_asked x y) v ≡ 0
  end_keeps is none = asked_by ops.End x y v is ∙ rw none (counted-none v)

  pub left_asked : {op : Op} → flags.op_of x ≡ op → is_left op ≡ true
      → counted (overflow_asked x y) v ≡ counted (taken_cell (depth x) (key x) (s y 15) (key y)) v
  left_asked {op = op} is left = asked_by op x y v is ∙ rw left refl

  loop_asked : flags.op_of x ≡ ops.End → h x 4 ≡ 1 → counted (overflow_asked x y) v ≡ counted (taken_cell (depth x) (key x) (s y 15) (key y)) v
  loop_asked is one = asked_by ops.End x y v is ∙ rw one refl

  -- a row that gives and asks nothing, where the stack and the keys stay; n is owed beside them
  pub quiet : {op : Op} {stack after keys new : List ℕ} → flags.op_of x ≡ op → is_right op ≡ false → is_left op ≡ false
      → is_op op ops.End ≡ false → after ≡ stack → new ≡ keys → (n : ℕ)
      → counted (overflow_given x y) v + (counted (cell_tuples keys (drop 16 stack)) v + n)
      ≡ counted (overflow_asked x y) v + (counted (cell_tuples new (drop 16 after)) v + n)
  quiet op no_right no_left no_end is same n = rw (is, same, none_given op no_right, none_asked op no_left no_end) refl

  -- a call hides the cells
  pub hides : {op : Op} → flags.op_of x ≡ op → is_right op ≡ false → is_left op ≡ false → is_op op ops.End ≡ false
      → (stack after keys : List ℕ) (n : ℕ)
      → counted (overflow_given x y) v + (counted (cell_tuples keys (drop 16 stack)) v + n)
      ≡ counted (overflow_asked x y) v + (counted (cell_tuples [] (drop 16 after)) v + (counted (cell_tuples keys (drop 16 stack)) v + n))
  hides op no_right no_left no_end stack after keys n =
      omega (arith, none_given op no_right, none_asked op no_left no_end, no_tuples (drop 16 after) v)

  flag_of_loop : (digest : List ℕ) (i j k l : ℕ) → length digest ≡ 4 → eight x ≡ digest ++ i ∷ j ∷ k ∷ l ∷ [] → h x 4 ≡ i
  flag_of_loop digest i j k l size e = ap (λ xs. slice_index xs 4) e ∙ (has_flags digest i j k l size).loop

  -- the END of a block that keeps the stack
  pub ends_quietly : {stack after : List ℕ} (d : Decoder) (digest : List ℕ) (j : ℕ) → flags.op_of x ≡ ops.End
      → eight x ≡ digest ++ 0 ∷ j ∷ 0 ∷ 0 ∷ [] → length digest ≡ 4 → after ≡ stack → (n : ℕ)
      → counted (overflow_given x y) v + (counted (cell_tuples d.keys (drop 16 stack)) v + n)
      ≡ counted (overflow_asked x y) v + (counted (cell_tuples (keys_behind (digest ++ 0 ∷ j ∷ 0 ∷ 0 ∷ []) d) (drop 16 after)) v + n)
  ends_quietly d digest j op cells size is n =
      rw (is, end_keys digest 0 j 0 0 d size, none_given op refl, end_keeps op (flag_of_loop digest 0 j 0 0 size cells)) refl

  -- the END of a call, which brings the cells back
  pub comes_back : (stack after cells : List ℕ) (d : Decoder) (digest : List ℕ) (k l : ℕ) → flags.op_of x ≡ ops.End
      → eight x ≡ digest ++ 0 ∷ 0 ∷ k ∷ l ∷ [] → length digest ≡ 4 → eqb k 1 || eqb l 1 ≡ true
      → length d.keys + 16 ≡ length stack → length stack ≤ 16 → after ≡ stack ++ cells → (n : ℕ)
      → counted (overflow_given x y) v + (counted (cell_tuples d.keys (drop 16 stack)) v + (counted (cell_tuples (hidden_of d.blocks) cells) v + n))
      ≡ counted (overflow_asked x y) v + (counted (cell_tuples (keys_behind (digest ++ 0 ∷ 0 ∷ k ∷ l ∷ []) d) (drop 16 after)) v + n)
  comes_back stack after cells d digest k l op hash size call keyed flat is n =
      let before : counted (cell_tuples d.keys (drop 16 stack)) v ≡ 0 = rw (no_keys d.keys stack keyed flat) (no_tuples (drop 16 stack) v) in
      let moved : drop 16 after ≡ cells = ap (drop 16) is ∙ drop_at stack cells 16 (omega (arith, keyed, flat)) in
      let back : keys_behind (digest ++ 0 ∷ 0 ∷ k ∷ l ∷ []) d ≡ hidden_of d.blocks
      = end_keys digest 0 0 k l d size ∙ ap (λ b. cond b (hidden_of d.blocks) d.keys) call in
      let behind = ap₂ (λ keys cs. counted (cell_tuples keys cs) v) back moved in
      omega (arith, before, behind, none_given op refl, end_keeps op (flag_of_loop digest 0 0 k l size hash))

  -- a condition is popped
  pub condition : {op : Op} {mark : Mark} {c : Core} {stack : List ℕ} {d after : Decoder} → StackCells mark c stack d after x y
      → flags.op_of x ≡ op → is_right op ≡ false
      → counted (overflow_asked x y) v ≡ counted (taken_cell (depth x) (key x) (s y 15) (key y)) v
      → after.keys ≡ drop 1 d.keys → stack ≡ filled_up (drop 1 c.stack) → length d.keys + 16 ≡ length c.stack → (n : ℕ)
      → counted (overflow_given x y) v + (counted (cell_tuples d.keys (drop 16 c.stack)) v + n)
      ≡ counted (overflow_asked x y) v + (counted (cell_tuples after.keys (drop 16 stack)) v + n)
  condition {c = c} {stack = stack} {d = d} cells is stays asked keys popped keyed n =
      let moved = pops d.keys c.stack stack (depth x) (key x) (s y 15) (key y) v keyed (popped_cells c.stack stack popped) cells.deep cells.key_is
      cells.behind (cells.key_behind ∙ ap key_of keys) in
      let behind = ap (λ k. counted (cell_tuples k (drop 16 stack)) v) keys in
      omega (arith, none_given is stays, asked, moved, behind)

  pub loop_ends_so : {mark : Mark} {c : Core} {stack : List ℕ} {d after : Decoder} (digest : List ℕ) → StackCells mark c stack d after x y
      → flags.op_of x ≡ ops.End → eight x ≡ digest ++ 1 ∷ 0 ∷ 0 ∷ 0 ∷ [] → length digest ≡ 4
      → after.keys ≡ keys_behind (digest ++ 1 ∷ 0 ∷ 0 ∷ 0 ∷ []) d → stack ≡ filled_up (drop 1 c.stack) → length d.keys + 16 ≡ length c.stack → (n : ℕ)
      → counted (overflow_given x y) v + (counted (cell_tuples d.keys (drop 16 c.stack)) v + n)
      ≡ counted (overflow_asked x y) v + (counted (cell_tuples after.keys (drop 16 stack)) v + n)
  loop_ends_so {d = d} digest cells is hash size keys =
      condition cells is refl (loop_asked is (flag_of_loop digest 1 0 0 0 size hash)) (keys ∙ end_keys digest 1 0 0 0 d size)

  -- an operation of a shift
  pub shifted : (op : Op) (shift : Shift) → shift_of op ≡ shift → (mark : Mark) (c : Core) (stack : List ℕ) (d after : Decoder)
      → StackCells mark c stack d after x y → flags.op_of x ≡ op → is_op op ops.End ≡ false → ShiftedBelow shift c.stack stack
      → after.keys ≡ keys_after shift c.clock d.keys → length d.keys + 16 ≡ length c.stack
      → counted (overflow_given x y) v + counted (cell_tuples d.keys (drop 16 c.stack)) v
      ≡ counted (overflow_asked x y) v + counted (cell_tuples after.keys (drop 16 stack)) v
  shifted op Right e mark c stack d after cells is other below keys keyed =
      let right : is_right op ≡ true = ap (is_shift Right) e in
      let given : counted (overflow_given x y) v ≡ hit (c.clock ∷ s x 15 ∷ key x ∷ []) v
      = given_by op x y v is ∙ rw (right, cells.clock) refl in
      let moved = pushes d.keys c.stack stack c.clock (key x) (s x 15) v below cells.key_is cells.last in
      let behind = ap (λ k. counted (cell_tuples k (drop 16 stack)) v) keys in
      omega (arith, none_asked is (ap (is_shift Left) e) other, given, moved, behind)
  shifted op Stay e mark c stack d after cells is other below keys keyed =
      rw (none_asked is (ap (is_shift Left) e) other, none_given is (ap (is_shift Right) e), keys, below) refl
  shifted op Left e mark c stack d after cells is other below keys keyed =
      let moved = pops d.keys c.stack stack (depth x) (key x) (s y 15) (key y) v keyed
      (record { below = below.0 ∙ sym (drop-drop 1 16 c.stack); last = below.1 }) cells.deep cells.key_is cells.behind
      (cells.key_behind ∙ ap key_of keys) in
      let behind = ap (λ k. counted (cell_tuples k (drop 16 stack)) v) keys in
      omega (arith, left_asked is (ap (is_shift Left) e), none_given is (ap (is_shift Right) e), moved, behind)
