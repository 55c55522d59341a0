-- What the row of a cycle shows by itself, and the row of HALT.
use Rattle.complete_rows.proofs.Words
use Words.{◌≡◌, ℕ, ◌<◌, false, List, [], ◌∷◌, slice_index, refl, sym, ap, ◌∙◌, subst, arith, lit<, Core, zero_word, is_ordinary_op, seen, Op, bit_of, Mark, Do}
use Words.{op_of_mark, Task, Next, span, join, split_1, split_0, loop_1, loop_0, call, syscall, dyn, operation, respan, span_ends, repeats, loop_ends, closes}
use Words.{returns, leaves, Loop, tree_digest, is_op, is_batch_op, shown_between, Event, Visible, IsRow, never, off, Agrees, Decoder, address_of, halted}
use Words.{line_of, row_of, witnesses_by, Shows, operation_witnesses}
use Words.ops
use Rattle.facts_main.specs.Blocks.{IsBlockRow}
use Rattle.complete_rows.proofs.AgreeLemmas.{kind_is}
use Rattle.complete_rows.proofs.BatchLemmas.{IsLaid, batch_row}
use Rattle.complete_rows.proofs.BlockLemmas.{end_row, four_zeros, ordinary_row, start_row}
use Rattle.complete_rows.proofs.ColumnLemmas.{col_addr}
use Rattle.complete_rows.proofs.GroupLemmas.{group_row}
use Rattle.complete_rows.proofs.PairLemmas.{Known, no_batch, top_shown}

-- the row of a block that begins no batch
plain_row : {op : Op} {x : List ℕ} → is_op op ops.Span ≡ false → is_op op ops.Respan ≡ false → is_ordinary_op op ≡ false → IsBlockRow op x
    → IsRow op x
plain_row {op = op} no_span no_respan no_ordinary block = record {
  block = block;
  batch = λ is. (let none : is_batch_op op ≡ false = rw (no_span, no_respan) refl in never (sym is ∙ none));
  group = λ is. never (sym is ∙ no_ordinary);
}

not_one : {A : Type 0} → ◌≡◌ {A = ℕ} 0 1 → A
not_one e = absurd (let none : ⊥ = omega (arith, e) in none)

module _ {constants : List ℕ} {kernel : List (List ℕ)} {advice : List ℕ} {d : Decoder} {todo : List Task} (later : List Event) (b : Core) (v : Visible)
    {x : List ℕ} where
  pub row_shown : {task : Task} {c : Core} {mark : Mark} {rest : List Task} → Next constants task c mark rest
      → Known constants kernel mark advice c d → Agrees (task ∷ todo) d c
      → Shows (op_of_mark mark) d c x → IsLaid (line_of d (shown_between mark advice c b) v later) x → IsRow (op_of_mark mark) x
  unfolding operation_witnesses
  row_shown (split_1 {c = c} bit) k agrees sx lx =
      plain_row refl refl refl (start_row refl refl refl (λ is. subst (λ n. n < 2) (sym (top_shown {c = c} sx refl)) k.allowed.1) off off off)
  row_shown (split_0 {c = c} bit) k agrees sx lx =
      plain_row refl refl refl (start_row refl refl refl (λ is. subst (λ n. n < 2) (sym (top_shown {c = c} sx refl)) k.allowed.1) off off off)
  row_shown (loop_1 {c = c} {a = a} bit) k agrees sx lx =
      plain_row refl refl refl (start_row refl refl refl (λ is. subst (λ n. n < 2) (sym (top_shown {c = c} sx refl)) k.allowed.1) off
      (λ is. four_zeros (tree_digest constants a) x k.whole.size lx.hash) off)
  row_shown (loop_0 {c = c} {a = a} bit) k agrees sx lx =
      plain_row refl refl refl (start_row refl refl refl (λ is. subst (λ n. n < 2) (sym (top_shown {c = c} sx refl)) k.allowed.1) off
      (λ is. four_zeros (tree_digest constants a) x k.whole.size lx.hash) off)
  row_shown (call {a = a}) k agrees sx lx =
      plain_row refl refl refl (start_row refl refl refl off off (λ is. four_zeros (tree_digest constants a) x k.whole.size lx.hash)
      (λ is. sx.syscall ∙ ap bit_of k.allowed.1))
  row_shown (syscall {a = a}) k agrees sx lx =
      plain_row refl refl refl (start_row refl refl refl off off (λ is. four_zeros (tree_digest constants a) x k.whole.size lx.hash)
      (λ is. sx.syscall ∙ ap bit_of k.allowed.1))
  row_shown (dyn found) k agrees sx lx =
      plain_row refl refl refl (start_row refl refl refl off off (λ is. four_zeros zero_word x refl lx.hash) off)
  row_shown (repeats bit) k agrees sx lx =
      plain_row refl refl refl (start_row refl refl refl off (λ is. top_shown sx bit) off off)
  row_shown (span {batch = batch} read) k agrees sx lx =
      record { block = start_row refl refl refl off off off off; batch = λ is. batch_row batch x k.whole lx; group = off }
  row_shown (respan {batch = batch} read) k agrees sx lx =
      record { block = start_row refl refl refl off off off off; batch = λ is. batch_row batch x k.whole lx; group = off }
  row_shown (operation {c = c} {item = item}) k agrees sx lx = record {
    block = ordinary_row item.op x (seen constants item advice c) k.whole.ordinary k.allowed sx.syscall;
    batch = λ is. never (sym is ∙ no_batch item.op k.whole.ordinary);
    group = λ is. group_row item.op d.unread x (record { left = sx.left; place = sx.place }) (sx.number k.whole.ordinary)
        (lx.witness 3 (lit< tt)
        ∙ ap (λ k. slice_index (witnesses_by k d (shown_between (Do item) advice c b) v later) 3) (kind_is item.op k.whole.ordinary))
        agrees.low.number agrees.reads.0.1;
  }
  row_shown (span_ends {digest = digest}) k agrees sx lx =
      plain_row refl refl refl (end_row digest 0 1 0 0 x k.whole.size lx.hash (omega arith) not_one)
  row_shown (loop_ends {a = a} bit) k agrees sx lx =
      plain_row refl refl refl (end_row (tree_digest constants (Loop a)) 1 0 0 0 x k.whole.size lx.hash (omega arith) (λ e. top_shown sx bit))
  row_shown (closes {digest = digest}) k agrees sx lx =
      plain_row refl refl refl (end_row digest 0 0 0 0 x k.whole.size lx.hash (omega arith) not_one)
  row_shown (returns {digest = digest}) k agrees sx lx =
      plain_row refl refl refl (end_row digest 0 0 1 0 x k.whole.0.size lx.hash (omega arith) not_one)
  row_shown (leaves {digest = digest}) k agrees sx lx =
      plain_row refl refl refl (end_row digest 0 0 0 1 x k.whole.0.size lx.hash (omega arith) not_one)
  row_shown join k agrees sx lx = plain_row refl refl refl (start_row refl refl refl off off off off)

-- no block is open at HALT
pub halt_row : (d : Decoder) (v : Visible) (c : Core) → Agrees [] d c → IsRow ops.Halt (row_of d (halted v) v [])
halt_row d v c agrees =
    plain_row refl refl refl (record {
      condition = off;
      again = off;
      ends = off;
      single = off;
      outside = off;
      inside = off;
      closed = λ is. col_addr (line_of d (halted v) v []) ∙ ap address_of agrees.framed;
    })
