-- Behind each cycle the tasks, the decoder and the state agree as they do before it.
use Rattle.complete_rows.proofs.Words
use Words.{◌≡◌, ℕ, ◌+◌, ◌-◌, ◌≤◌, ◌||◌, cond, eqb, List, [], ◌∷◌, ◌++◌, length, take, drop, refl, sym, ap, ◌∙◌, subst, arith, length-append, length-drop}
use Words.{number_of_constants, Core, State, IsWellFormed, takes_of, leaves_of, shift_of, Item, core_behind, IsAllowed, Mark, Do, advice_taken, effect_of}
use Words.{event_of, IsWholeMark, behind, Loop, tree_digest, Task, Next, span, join, loop_0, call, syscall, dyn, operation, respan, span_ends, repeats}
use Words.{loop_ends, closes, returns, leaves, IsCycle, behind-cycle, cycle-step, is_op, shown, shown_between, Event, Agrees, AreOutside, IsLowUnread, Decoder}
use Words.{hidden_of, advance, nothing_unread}
use Words.ops
use Rattle.vm_ops.specs.Sizes.{depth_after}
use Rattle.vm_ops.proofs.MoveLemmas.{shift_of-by_one, takes_of-below}
use Rattle.vm_ops.proofs.StepLemmas.{step-depth}
use Rattle.complete_rows.specs.Agreement.{Framed}
use Rattle.complete_rows.specs.Decoder.{closed}
use Rattle.complete_rows.proofs.AgreeLemmas.{by_one, end_keys, hidden_depth, low_begun, low_taken, ordinary_advance, popped_depth, reads_begun, reads_next}
use Rattle.complete_rows.proofs.AgreeLemmas.{reads_outside, taken_depth}

-- the stack is as deep as an operation leaves it
abbrev Deep : List ℕ → Mark → List ℕ → Core → Type 0
Deep constants mark advice c =
    (item : Item) → mark ≡ Do item → length (core_behind constants mark advice c).stack ≡ depth_after item.op (length c.stack)

come_back : (stack hidden keys : List ℕ) → length stack ≤ 16 → 16 ≤ length stack → length keys ≡ length hidden → length keys + 16 ≡ length (stack ++ hidden)
come_back stack hidden keys flat deep is = omega (arith, flat, deep, is, length-append stack hidden)

module _ (d : Decoder) (todo : List Task) where
  -- behind the END of a block, by its digest and its flags
  after_end : {n : ℕ} {e : Core} (digest : List ℕ) (i j k l : ℕ) → length digest ≡ 4 → Framed todo (drop 1 d.blocks)
      → (d.unread ≡ nothing_unread) × AreOutside todo → IsLowUnread d.unread → n ≡ length d.blocks → e.nesting ≡ n - 1
      → length (cond (eqb i 1) (drop 1 d.keys) (cond (eqb k 1 || eqb l 1) (hidden_of d.blocks) d.keys)) + 16 ≡ length e.stack
      → Agrees todo (closed (digest ++ i ∷ j ∷ k ∷ l ∷ []) d) e
  after_end digest i j k l size framed reads low nesting less keyed = record {
    framed = framed;
    reads = reads_outside todo d.unread reads.1 reads.0;
    low = low;
    nesting = omega (arith, nesting, less, length-drop 1 d.blocks);
    keyed = ap (λ keys. length keys + 16) (end_keys digest i j k l d size) ∙ keyed;
  }

module _ {constants : List ℕ} (kernel : List (List ℕ)) (advice : List ℕ) (d : Decoder) (later : List Event) (todo : List Task) (b : Core) where
  core_agrees : {task : Task} {c : Core} {mark : Mark} {rest : List Task} → Next constants task c mark rest → IsAllowed constants kernel mark advice c
      → IsWholeMark mark → 16 ≤ length c.stack → Deep constants mark advice c → Agrees (task ∷ todo) d c
      → Agrees (rest ++ todo) (advance d (shown_between mark advice c b) later) (core_behind constants mark advice c)
  core_agrees (span {batch = batch} {items = items} read) allowed w deep op a = record {
    framed = (omega arith, a.framed);
    reads = (reads_begun batch items read, a.reads.1);
    low = low_begun batch w;
    nesting = omega (arith, a.nesting);
    keyed = a.keyed;
  }
  core_agrees join allowed w deep op a = record {
    framed = (omega arith, a.framed);
    reads = (a.reads.0, (tt, (tt, a.reads.1)));
    low = a.low;
    nesting = omega (arith, a.nesting);
    keyed = a.keyed;
  }
  core_agrees (loop_0 bit) allowed w deep op a = record {
    framed = (omega arith, a.framed);
    reads = (a.reads.0, a.reads.1);
    low = a.low;
    nesting = omega (arith, a.nesting);
    keyed = popped_depth _ d.keys a.keyed;
  }
  core_agrees (call {c = c}) allowed w deep op a = record {
    framed = (omega arith, hidden_depth c.stack d.keys a.keyed deep, a.framed);
    reads = (a.reads.0, (tt, a.reads.1));
    low = a.low;
    nesting = omega (arith, a.nesting);
    keyed = taken_depth c.stack deep;
  }
  core_agrees (syscall {c = c}) allowed w deep op a = record {
    framed = (omega arith, hidden_depth c.stack d.keys a.keyed deep, a.framed);
    reads = (a.reads.0, (tt, a.reads.1));
    low = a.low;
    nesting = omega (arith, a.nesting);
    keyed = taken_depth c.stack deep;
  }
  core_agrees (dyn found) allowed w deep op a = record {
    framed = (omega arith, a.framed);
    reads = (a.reads.0, (tt, a.reads.1));
    low = a.low;
    nesting = omega (arith, a.nesting);
    keyed = a.keyed;
  }
  core_agrees (operation {c = c} {item = item} {items = items}) allowed w deep op a =
      rw (ordinary_advance d (shown_between (Do item) advice c b) later w.ordinary) (record {
        framed = a.framed;
        reads = (reads_next item items d.unread a.reads.0, a.reads.1);
        low = low_taken (is_op item.op ops.Push) d.unread a.low a.reads.0.1;
        nesting = a.nesting;
        keyed = by_one (shift_of item.op) (takes_of item.op) (leaves_of item.op) (shift_of-by_one item.op) c.clock d.keys (length c.stack)
            a.keyed (takes_of-below item.op) (length (core_behind constants (Do item) advice c).stack) (op item refl);
      })
  core_agrees (respan {batch = batch} {items = items} read) allowed w deep op a = record {
    framed = a.framed;
    reads = (reads_begun batch items read, a.reads.1);
    low = low_begun batch w;
    nesting = a.nesting;
    keyed = a.keyed;
  }
  core_agrees (repeats bit) allowed w deep op a = record {
    framed = a.framed;
    reads = (a.reads.0, (tt, a.reads.1));
    low = a.low;
    nesting = a.nesting;
    keyed = popped_depth _ d.keys a.keyed;
  }
  core_agrees (span_ends {digest = digest}) allowed w deep op a =
      after_end d todo digest 0 1 0 0 w.size a.framed.1 a.reads a.low a.nesting refl a.keyed
  core_agrees (loop_ends {a = body} bit) allowed w deep op a =
      after_end d todo (tree_digest constants (Loop body)) 1 0 0 0 w.size a.framed.1 a.reads a.low a.nesting refl (popped_depth _ d.keys a.keyed)
  core_agrees (closes {digest = digest}) allowed w deep op a =
      after_end d todo digest 0 0 0 0 w.size a.framed.1 a.reads a.low a.nesting refl a.keyed
  core_agrees (returns {c = c} {digest = digest} {frame = frame}) allowed w deep op a =
      after_end d todo digest 0 0 1 0 w.0.size a.framed.2 a.reads a.low a.nesting refl
      (come_back c.stack frame.hidden (hidden_of d.blocks) allowed deep a.framed.1)
  core_agrees (leaves {c = c} {digest = digest} {frame = frame}) allowed w deep op a =
      after_end d todo digest 0 0 0 1 w.0.size a.framed.2 a.reads a.low a.nesting refl
      (come_back c.stack frame.hidden (hidden_of d.blocks) allowed deep a.framed.1)
  core_agrees next allowed w deep op a = record {
    framed = (omega arith, a.framed);
    reads = (a.reads.0, (tt, a.reads.1));
    low = a.low;
    nesting = omega (arith, a.nesting);
    keyed = popped_depth _ d.keys a.keyed;
  }

module _ {constants : List ℕ} {kernel : List (List ℕ)} {limit : ℕ} where
  pub agrees_next : length constants ≡ number_of_constants → {task : Task} {mark : Mark} {rest : List Task} {s t : State} → Next constants task s.core mark rest
      → IsCycle constants kernel limit mark s t → IsWholeMark mark → IsWellFormed s → (d : Decoder) (later : List Event) (todo : List Task)
      → Agrees (task ∷ todo) d s.core
      → Agrees (rest ++ todo) (advance d (shown constants kernel (event_of mark (advice_taken mark) s)) later) t.core
  agrees_next len {mark = mark} {rest = rest} {s = s} {t = t} first cycle w h d later todo a =
      let b = behind-cycle constants kernel mark (take (advice_taken mark) s.tape) s.core cycle.core cycle.made in
      let stack : t.core.stack ≡ (core_behind constants mark (take (advice_taken mark) s.tape) s.core).stack
      = ap (λ x. x.core.stack) cycle.now ∙ ap (λ x. x.stack) b.1 in
      let nesting : t.core.nesting ≡ (core_behind constants mark (take (advice_taken mark) s.tape) s.core).nesting
      = ap (λ x. x.core.nesting) cycle.now ∙ ap (λ x. x.nesting) b.1 in
      let op : Deep constants mark (take (advice_taken mark) s.tape) s.core
      = λ item is. ap length (sym stack)
      ∙ step-depth constants item s t len h
      (cycle-step constants kernel limit item s t (subst (λ m. IsCycle constants kernel limit m s t) is cycle)) in
      let after = core_agrees kernel (take (advice_taken mark) s.tape) d later todo (behind (effect_of constants kernel mark (take (advice_taken mark) s.tape) s.core) s.core)
      first b.0 w h.core.deep op a in
      record {
        framed = after.framed;
        reads = after.reads;
        low = after.low;
        nesting = nesting ∙ after.nesting;
        keyed = after.keyed ∙ ap length (sym stack);
      }
