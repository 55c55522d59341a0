-- Each cycle keeps the balance of overflow.
use Rattle.complete_rows.proofs.Words
use Words.{◌≡◌, ℕ, ◌+◌, List, ◌∷◌, ◌++◌, length, drop, refl, ap, arith, Core, shift_of, ShiftedBelow, Item, core_behind, IsAllowed, Mark, Do, IsWholeMark, Task}
use Words.{Next, span, join, call, syscall, dyn, operation, respan, span_ends, loop_ends, closes, returns, leaves, Loop, tree_digest, counted}
use Words.{overflow_asked, overflow_given, shown_between, Event, Decoder, advance}
use Rattle.complete_rows.proofs.AgreeLemmas.{ordinary_advance}
use Rattle.complete_rows.proofs.BlockLemmas.{no_block}
use Rattle.complete_requests.proofs.OverflowSteps.{StackCells, comes_back, condition, ends_quietly, hidden, hides, left_asked, loop_ends_so, owed_cells, quiet}
use Rattle.complete_requests.proofs.OverflowSteps.{shifted}

module _ {constants : List ℕ} (kernel : List (List ℕ)) (advice : List ℕ) {x y : List ℕ} (v : List ℕ) (d : Decoder)
    (later : List Event) (todo : List Task) (b : Core) (stack : List ℕ) where
  pub overflow_step : {task : Task} {c : Core} {mark : Mark} {rest : List Task} → Next constants task c mark rest → IsWholeMark mark
      → IsAllowed constants kernel mark advice c → stack ≡ (core_behind constants mark advice c).stack
      → ((item : Item) → mark ≡ Do item → ShiftedBelow (shift_of item.op) c.stack stack) → length d.keys + 16 ≡ length c.stack
      → StackCells mark c stack d (advance d (shown_between mark advice c b) later) x y
      → counted (overflow_given x y) v + owed_cells v (task ∷ todo) d c.stack
      ≡ counted (overflow_asked x y) v + owed_cells v (rest ++ todo) (advance d (shown_between mark advice c b) later) stack
  overflow_step (call {c = c}) w allowed is op keyed cells =
      hides x y v cells.op refl refl refl c.stack stack d.keys (hidden todo d.blocks v)
  overflow_step (syscall {c = c}) w allowed is op keyed cells =
      hides x y v cells.op refl refl refl c.stack stack d.keys (hidden todo d.blocks v)
  overflow_step (operation {c = c} {item = item}) w allowed is op keyed cells =
      let advanced = ordinary_advance d (shown_between (Do item) advice c b) later w.ordinary in
      let moved =
      shifted x y v item.op (shift_of item.op) refl (Do item) c stack d (advance d (shown_between (Do item) advice c b) later) cells cells.op
      (no_block item.op w.ordinary).end (op item refl) (ap (λ (z : Decoder). z.keys) advanced) keyed in
      let calls = ap (λ (z : Decoder). hidden todo (drop 1 z.blocks) v) advanced in
      omega (arith, moved, calls)
  overflow_step (span_ends {digest = digest}) w allowed is op keyed cells =
      ends_quietly x y v d digest 1 cells.op (cells.eight refl) w.size is _
  overflow_step (closes {digest = digest}) w allowed is op keyed cells =
      ends_quietly x y v d digest 0 cells.op (cells.eight refl) w.size is _
  overflow_step (loop_ends {a = a} bit) w allowed is op keyed cells =
      loop_ends_so x y v (tree_digest constants (Loop a)) cells cells.op (cells.eight refl) w.size refl is keyed _
  overflow_step (returns {c = c} {digest = digest} {frame = frame}) w allowed is op keyed cells =
      comes_back x y v c.stack stack frame.hidden d digest 1 0 cells.op (cells.eight refl) w.0.size refl keyed allowed is _
  overflow_step (leaves {c = c} {digest = digest} {frame = frame}) w allowed is op keyed cells =
      comes_back x y v c.stack stack frame.hidden d digest 0 1 cells.op (cells.eight refl) w.0.size refl keyed allowed is _
  overflow_step (span read) w allowed is op keyed cells = quiet x y v cells.op refl refl refl is refl _
  overflow_step join w allowed is op keyed cells = quiet x y v cells.op refl refl refl is refl _
  overflow_step (dyn found) w allowed is op keyed cells = quiet x y v cells.op refl refl refl is refl _
  overflow_step (respan read) w allowed is op keyed cells = quiet x y v cells.op refl refl refl is refl _
  overflow_step next w allowed is op keyed cells = condition x y v cells cells.op refl (left_asked x y v cells.op refl) refl is keyed _
