-- Which operation comes where which task is the first.
use Rattle.complete_rows.proofs.Words
use Words.{◌≡◌, ℕ, true, false, ◌||◌, Bool, List, [], ◌∷◌, refl, sym, ap, subst, ◌∙◌, Core, is_ordinary_op, is_start_op, Item, Op, Mark, IsWholeMark}
use Words.{op_of_mark, Task, Block, Within, Closing, Next, span, operation, respan, span_ends, closes, Tree, is_op, AreOutside, IsOutsideSpan, Comes}
use Words.ops

module _ (constants : List ℕ) where
  block_starts : {tree : Tree} {c : Core} {mark : Mark} {rest : List Task} → Next constants (Block tree) c mark rest
      → is_start_op (op_of_mark mark) ≡ true
  block_starts (span read) = refl
  block_starts next = refl

  pub starts_block : (tree : Tree) (todo : List Task) (c : Core) (op : Op) → Comes constants (Block tree ∷ todo) c op → is_start_op op ≡ true
  starts_block tree todo c op h = ap is_start_op h.4 ∙ block_starts h.2

  -- in a batch that is not read to its end comes an operation
  item_goes : {item : Item} {items : List Item} {later : List (List ℕ)} {digest : List ℕ} {c : Core} {mark : Mark} {rest : List Task}
      → Next constants (Within (item ∷ items) later digest) c mark rest → IsWholeMark mark → is_ordinary_op (op_of_mark mark) ≡ true
  item_goes operation w = w.ordinary

  pub goes_within : (item : Item) (items : List Item) (later : List (List ℕ)) (digest : List ℕ) (todo : List Task) (c : Core) (op : Op)
      → Comes constants (Within (item ∷ items) later digest ∷ todo) c op → is_ordinary_op op ≡ true
  goes_within item items later digest todo c op h = ap is_ordinary_op h.4 ∙ item_goes h.2 h.3

  -- behind the last one comes END or RESPAN
  abbrev pub Closes : Op → Type 0
  Closes op = (is_ordinary_op op ≡ false) × (is_op op ops.End || is_op op ops.Respan ≡ true)

  batch_closes : {later : List (List ℕ)} {digest : List ℕ} {c : Core} {mark : Mark} {rest : List Task}
      → Next constants (Within [] later digest) c mark rest → Closes (op_of_mark mark)
  batch_closes (respan read) = (refl, refl)
  batch_closes span_ends = (refl, refl)

  pub closes_batch : (later : List (List ℕ)) (digest : List ℕ) (todo : List Task) (c : Core) (op : Op)
      → Comes constants (Within [] later digest ∷ todo) c op → Closes op
  closes_batch later digest todo c op h = subst Closes (sym h.4) (batch_closes h.2)

  close_ends : {digest : List ℕ} {c : Core} {mark : Mark} {rest : List Task} → Next constants (Closing digest) c mark rest
      → is_op (op_of_mark mark) ops.End ≡ true
  close_ends closes = refl

  -- a loop that is not entered ends at once
  pub ends_block : (digest : List ℕ) (todo : List Task) (c : Core) (op : Op) → Comes constants (Closing digest ∷ todo) c op
      → is_op op ops.End ≡ true
  ends_block digest todo c op h = ap (λ o. is_op o ops.End) h.4 ∙ close_ends h.2

  -- what may come behind the END of a block
  abbrev pub comes_behind : Op → Bool
  comes_behind op = is_start_op op || is_op op ops.End || is_op op ops.Repeat || is_op op ops.Halt

  no_span_behind : {task : Task} {c : Core} {mark : Mark} {rest : List Task} → IsOutsideSpan task → Next constants task c mark rest
      → comes_behind (op_of_mark mark) ≡ true
  no_span_behind out operation = absurd out
  no_span_behind out (respan read) = absurd out
  no_span_behind out next = refl

  pub behind_block : (todo : List Task) (c : Core) (op : Op) → AreOutside todo → Comes constants todo c op → comes_behind op ≡ true
  behind_block [] c op out h = ap comes_behind h
  behind_block (task ∷ todo) c op out h = ap comes_behind h.4 ∙ no_span_behind out.0 h.2
